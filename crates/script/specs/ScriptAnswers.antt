-- A backplane that obeys records.
use Rattle.std.specs.Prelude.{ℕ, ◌+◌, ◌%◌, ◌^◌, Bool, false, cond, not, ◌&&◌, ◌||◌, List, [], ◌∷◌, Some, None, Option, ◌==◌, count_ones, nat_lt}
use Rattle.std.specs.List.{slice_get}
use Rattle.exchanges.specs.Boards.{bit}
use Rattle.exchanges.specs.CutLines.{each_below}
use Rattle.exchanges.specs.Plane.{Plane, round_after}
use Rattle.script.specs.declared.model.Record.{Record}
use Rattle.script.specs.declared.rules.Rule.{Rule}

-- whether a record is for this round and sender
abbrev pub is_for : Record → ℕ → ℕ → Bool
is_for c r s = c.round == r && c.sender == s

-- what the first record for the round and sender says, where the forged items of the first of the records begin at place k:
-- each record has one for each bit of its forged map, and those of the next begin after them
abbrev pub first_rule : List Record → ℕ → ℕ → ℕ → Option Rule
first_rule [] k r s = None
first_rule (c ∷ l) k r s =
    cond (is_for c r s) (Some (record { lost = c.lost; forged = c.forged; start = k })) (first_rule l (k + count_ones c.forged) r s)

-- what d hears under the rule of s where s sends x: silence if it is lost, the forged item (silence if that is missing) if s is bad and forges to d
abbrev pub obeyed : {I : Type 0} → Option Rule → List I → ℕ → ℕ → ℕ → Option I → Option I
obeyed None slips bad s d x = x
obeyed (Some c) slips bad s d x =
    cond (bit c.lost d) None (cond (bit bad s && bit c.forged d) (slice_get slips (c.start + count_ones (c.forged % 2 ^ d))) x)

-- whether the rule loses what goes to d
abbrev pub loses : Option Rule → ℕ → Bool
loses None d = false
loses (Some c) d = bit c.lost d

-- n boards, a map of the bad ones, and the records with their forged items
abbrev pub script : {I : Type 0} → ℕ → ℕ → List Record → List I → ℕ → Plane I
script n bad records slips round = record {
  boards = n;
  bad = λ p. bit bad p;
  round = round;
  clear = λ r. each_below (λ s. each_below (λ d. bit bad s || (bit bad d || not (loses (first_rule records 0 r s) d))) n) n;
  answer = λ l s d x. cond (nat_lt s n && nat_lt d n) (obeyed (first_rule records 0 (round_after round l) s) slips bad s d x) None;
}
