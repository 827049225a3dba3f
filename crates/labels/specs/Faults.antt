-- Faults: the number of the refusal, the place, and the reader.
use Rattle.std.specs.Prelude.{ℕ, Bool, true, false, List, ◌++◌, Ok, Err, codes, decimal, Result}
use Rattle.labels.specs.Refusals.{row}
use Rattle.labels.specs.declared.fault.Fault.{Fault}
use Rattle.labels.specs.declared.fault.Reader.{Reader}
use Rattle.labels.specs.declared.fault.Reader.TheVariants.{Label, Record, Script}

-- a fault by the number of its refusal
abbrev pub Numbered : Type 0
Numbered = ℕ × ℕ × Reader

abbrev pub numbered : Fault → Numbered
numbered f = (row f.refusal, f.place, f.reader)

-- an answer, with its fault by number
abbrev pub answered : {X : Type 0} → Result X Fault → Result X Numbered
answered (Ok x) = Ok x
answered (Err f) = Err (numbered f)

-- go on if the test holds, or else the fault
abbrev pub require : {X : Type 0} → Bool → Numbered → Result X Numbered → Result X Numbered
require true f k = k
require false f k = Err f

-- what is printed of a fault
abbrev pub word : Reader → List ℕ
word Label = codes "label"
word Record = codes "record"
word Script = codes "script"

abbrev pub line : Fault → List ℕ
line f = codes "fault " ++ (decimal (row f.refusal) ++ (codes " at " ++ (decimal f.place ++ (codes " in " ++ word f.reader))))
