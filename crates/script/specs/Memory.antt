-- A script as it lies in memory, and what read and write answer and leave there.
use Rattle.std.specs.Prelude.{◌≡◌, ℕ, ◌≤◌, Bool, true, cond, ◌&&◌, List, [], ◌∷◌, ◌++◌, length, take, drop, Ok, Err, Result, count_ones, nat_le}
use Rattle.labels.specs.Bytes.{Bytes}
use Rattle.labels.specs.Coding.{Coding}
use Rattle.labels.specs.Faults.{Numbered, require}
use Rattle.labels.specs.declared.fault.Reader.TheVariants.{Record as InRecord, Script as InScript}
use Rattle.labels.specs.declared.slip.Slip.{Slip}
use Rattle.script.specs.declared.model.Header.{Header}
use Rattle.script.specs.declared.model.Record.{Record}
use Rattle.script.specs.declared.model.Script.{Script as Lent}
use Rattle.script.specs.Readers.{bind}
use Rattle.script.specs.Entries.{Entry}
use Rattle.script.specs.Script.{Script, encode, decode}

-- the three lists
pub record Lists (L : Type 0) : Type 0 where
  pub proposals : List L
  pub records : List Record
  pub slips : List (Slip L)

abbrev pub lists : {L : Type 0} → List L → List Record → List (Slip L) → Lists L
lists ps rs ss = record { proposals = ps; records = rs; slips = ss }

-- the lists that a script in memory is lent
abbrev pub lists_of : {L : Type 0} → Lent L → Lists L
lists_of s = lists s.proposals.now s.records.now s.slips.now

-- each record with a slip for each bit of its forged map, to the first record whose slips are not all there
abbrev pub with_slips : {L : Type 0} → List Record → List (Slip L) → List (Entry L)
with_slips [] ss = []
with_slips (r ∷ rs) ss =
    record { note = r; slips = take (count_ones r.forged) ss } ∷ cond (nat_le (count_ones r.forged) (length ss)) (with_slips rs (drop (count_ones r.forged) ss)) []

-- the script that lies in memory: the first n proposals, and the first `count` records, or as many as there are, with
-- their slips; where a list ends too soon the script is cut
abbrev pub held : {L : Type 0} → Header → ℕ → Lists L → Script L
held h count m = record {
  head = h;
  proposals = take h.boards m.proposals;
  records = cond (nat_le h.boards (length m.proposals)) (with_slips (take count m.records) m.slips) [];
}

-- the records without their slips, and the slips of all records
abbrev pub notes : {L : Type 0} → List (Entry L) → List Record
notes [] = []
notes (e ∷ es) = e.note ∷ notes es

abbrev pub all_slips : {L : Type 0} → List (Entry L) → List (Slip L)
all_slips [] = []
all_slips (e ∷ es) = e.slips ++ all_slips es

-- values at the front of a list; what lies past them is as it was
abbrev pub laid : {X : Type 0} → List X → List X → List X
laid xs old = xs ++ drop (length xs) old

-- whether the lists are long enough for a script
abbrev pub room : {L : Type 0} → Script L → Lists L → Bool
room s m = nat_le (length s.proposals) (length m.proposals) && (nat_le (length s.records) (length m.records) && nat_le (length (all_slips s.records)) (length m.slips))

-- what read answers: header and record count, or the fault
abbrev pub reads : {L : Type 0} → Coding L → List ℕ → Lists L → Result (Header × ℕ) Numbered
reads C b m = bind (decode C b) (λ s. require (room s m) (10, length b, InScript) (Ok (s.head, length s.records)))

-- what the lists hold after a script, or a fault, was read from bytes: a refusal leaves them as they are
abbrev pub filled : {L : Type 0} → Result (Script L) Numbered → Lists L → Lists L
filled (Ok s) m = cond (room s m) (lists (laid s.proposals m.proposals) (laid (notes s.records) m.records) (laid (all_slips s.records) m.slips)) m
filled (Err e) m = m

-- the bytes that write forms
abbrev pub formed : {L : Type 0} → Coding L → Header → ℕ → Lists L → List ℕ
formed C h count m = encode C (held h count m)

-- what is still refused of bytes that read well: 13 at their end where records are missing, then 22
abbrev pub last_checks : ℕ → ℕ → ℕ → ℕ → Result (Unit {0}) Numbered
last_checks count there bytes size = require (nat_le count there) (13, bytes, InRecord) (require (nat_le bytes size) (22, size, InScript) (Ok tt))

-- what write answers, at an output of so many bytes: what read answers for the bytes, but for memory; then the last
-- checks; else how many bytes there are
abbrev pub writes : {L : Type 0} → Coding L → Header → ℕ → Lists L → ℕ → Result ℕ Numbered
writes C h count m size =
    bind (decode C (formed C h count m)) (λ s.
    bind (last_checks count (length m.records) (length (formed C h count m)) size) (λ _.
    Ok (length (formed C h count m))))

-- what the output holds after an answer: a refusal leaves it as it is
abbrev pub written : Result ℕ Numbered → List ℕ → List ℕ → List ℕ
written (Ok k) b out = laid b out
written (Err e) b out = out

-- reading what was written restores the script, in all lists that have room for it
abbrev pub ReadsBack : {L : Type 0} → Coding L → Type 0
ReadsBack {L} C =
    (h : Header) (count : ℕ) (m : Lists L) (out : List ℕ) (k : ℕ) → writes C h count m (length out) ≡ Ok k →
    (given : Lists L) → room (held h count m) given ≡ true →
    (reads C (take k (written (Ok k) (formed C h count m) out)) given ≡ Ok (h, count))
    × (held h count (filled (decode C (take k (written (Ok k) (formed C h count m) out))) given) ≡ held h count m)

-- writing what was read restores its bytes
abbrev pub WritesBack : {L : Type 0} → Coding L → Type 0
WritesBack {L} C =
    (b : List ℕ) (given : Lists L) (h : Header) (count : ℕ) → Bytes b → reads C b given ≡ Ok (h, count) →
    (size : ℕ) → length b ≤ size →
    (writes C h count (filled (decode C b) given) size ≡ Ok (length b))
    × (formed C h count (filled (decode C b) given) ≡ b)
