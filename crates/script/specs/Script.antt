-- A script as a value, its bytes, and what bytes read as.
use Rattle.std.specs.Prelude.{ℕ, List, ◌++◌, length, Ok, Result, nat_le}
use Rattle.labels.specs.Coding.{Coding, read_at}
use Rattle.labels.specs.Faults.{Numbered, require}
use Rattle.labels.specs.declared.fault.Reader.TheVariants.{Script as InScript}
use Rattle.script.specs.declared.model.Header.{Header}
use Rattle.script.specs.Readers.{then}
use Rattle.script.specs.Fields.{many, joined}
use Rattle.script.specs.Header.{header, header_bytes, bad_map}
use Rattle.script.specs.Entries.{Entry, entries, entry_bytes}

pub record Script (L : Type 0) : Type 0 where
  pub head : Header
  pub proposals : List L
  pub records : List (Entry L)

-- the most bytes that a script has
abbrev pub most : ℕ
most = 60000

-- the bytes of a script
abbrev pub encode : {L : Type 0} → Coding L → Script L → List ℕ
encode C s = header_bytes C.kind s.head ++ (joined C.write s.proposals ++ joined (entry_bytes C) s.records)

-- the script of bytes, or the first fault: 12 before all, then the fields in the order of their bytes
abbrev pub decode : {L : Type 0} → Coding L → List ℕ → Result (Script L) Numbered
decode C b =
    require (nat_le (length b) most) (12, most, InScript) (
    then (header C.kind b 0) (λ h p.
    then (many h.boards (read_at C) b p) (λ ps q.
    then (entries C h.boards (bad_map h) (length b) 0 0 b q) (λ es r.
    Ok (record { head = h; proposals = ps; records = es })))))
