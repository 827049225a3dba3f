-- A table of rules, as the records are gone through. Assumes nothing.
use Rattle.std.proofs.Common.{◌≡◌, ℕ, ◌+◌, ◌<◌, List, get_or, None, Option}
use Rattle.std.specs.Option.{option_or}
use Rattle.script.specs.declared.model.Record.{Record}
use Rattle.script.specs.declared.rules.Rule.{Rule}
use Rattle.script.specs.ScriptAnswers.{first_rule}

-- the table, and where it has nothing the records left, have the rules of all the records
abbrev pub Entered : List (Option Rule) → List Record → List Record → ℕ → ℕ → ℕ → Type 0
Entered table all rest start round first =
    (s : ℕ) → s < 8 → option_or (get_or table s None) (first_rule rest start round (first + s)) ≡ first_rule all 0 round (first + s)

abbrev pub ruled : Record → ℕ → Rule
ruled c k = record { lost = c.lost; forged = c.forged; start = k }
