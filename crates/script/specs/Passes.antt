-- What the passes over a script answer and leave.
use Rattle.std.specs.Prelude.{◌≡◌, ℕ, ◌+◌, ◌<◌, ◌≤◌, List, ◌++◌, length, take, Ok, Err, Result, nat_le}
use Rattle.labels.specs.Coding.{Coding, read_at}
use Rattle.labels.specs.Faults.{Numbered, require}
use Rattle.labels.specs.declared.fault.Reader.TheVariants.{Script as InScript}
use Rattle.labels.specs.declared.slip.Slip.{Slip}
use Rattle.script.specs.declared.model.Record.{Record}
use Rattle.script.specs.declared.survey.Survey.{Survey}
use Rattle.script.specs.Readers.{Read, then, bind}
use Rattle.script.specs.Fields.{many}
use Rattle.script.specs.Header.{header, bad_map}
use Rattle.script.specs.Entries.{Entry, entries}
use Rattle.script.specs.Script.{most}
use Rattle.script.specs.Memory.{notes, all_slips, laid}

-- the place after what was read
abbrev pub placed : {X : Type 0} → Read X → Result ℕ Numbered
placed (Ok x) = Ok x.1
placed (Err e) = Err e

-- a record without its slips
abbrev pub noted : {L : Type 0} → Read (Entry L) → Read Record
noted (Ok x) = Ok (x.0.note, x.1)
noted (Err e) = Err e

-- how many records and forged slips there are
abbrev pub counted : {L : Type 0} → Read (List (Entry L)) → Result (ℕ × ℕ) Numbered
counted (Ok x) = Ok (length x.0, length (all_slips x.0))
counted (Err e) = Err e

-- the first pass: every fault but that of memory
abbrev pub surveyed : {L : Type 0} → Coding L → List ℕ → Result Survey Numbered
surveyed C b =
    require (nat_le (length b) most) (12, most, InScript) (
    then (header C.kind b 0) (λ h p.
    bind (placed (many h.boards (read_at C) b p)) (λ q.
    bind (counted (entries C h.boards (bad_map h) (length b) 0 0 b q)) (λ c.
    Ok (record { head = h; start = p; rest = q; records = c.0; slips = c.1 })))))

-- where the values can be read, they are the list
abbrev pub Filled : {X : Type 0} → Read (List X) → Result ℕ Numbered → List X → Type 0
Filled (Ok x) r new = (r ≡ Ok x.1) × (new ≡ x.0)
Filled (Err e) r new = r ≡ Err e

-- the records can be read, and there is room for them
abbrev pub Room : {L : Type 0} → Read (List (Entry L)) → ℕ → ℕ → Type 0
Room (Ok x) m k = (length x.0 ≤ m) × (length (all_slips x.0) ≤ k)
Room (Err e) m k = ⊥

-- the second pass over the records
abbrev pub Stored : {L : Type 0} → Read (List (Entry L)) → Result (Unit {0}) Numbered → List Record → List Record → List (Slip L) → List (Slip L) → Type 0
Stored (Ok x) r old new old_slips new_slips = (r ≡ Ok tt) × (new ≡ laid (notes x.0) old) × (new_slips ≡ laid (all_slips x.0) old_slips)
Stored (Err e) r old new old_slips new_slips = Unit {0}

-- bytes put into a buffer from a place on: the place after them, with what then stands before it; 12 where they pass
-- the end of the buffer
abbrev pub Puts : List ℕ → List ℕ → ℕ → Result ℕ Numbered → List ℕ → Type 0
Puts bytes old at (Ok q) new = (q ≡ at + length bytes) × (take q new ≡ take at old ++ bytes)
Puts bytes old at (Err e) new = (e ≡ (12, most, InScript)) × (length new < at + length bytes)
