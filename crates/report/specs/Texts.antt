-- What is printed of a script that comes to nothing.
use Rattle.std.specs.Prelude.{ℕ, List, ◌++◌, Some, None, codes, decimal, Option}
use Rattle.labels.specs.Faults.{line}
use Rattle.labels.specs.Refusals.{row}
use Rattle.report.specs.declared.error.ScriptError.{ScriptError}
use Rattle.report.specs.declared.error.ScriptError.TheVariants.{NoMemory, Unreadable, Refused}

-- a fault as it is, and a refusal by its number; what the library says where memory runs out is its own
abbrev pub text : ScriptError → Option (List ℕ)
text (NoMemory e) = None
text (Unreadable f) = Some (line f)
text (Refused r) = Some (codes "refused " ++ decimal (row r))
