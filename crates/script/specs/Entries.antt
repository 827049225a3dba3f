-- The records, each with its forged slips.
use Rattle.std.specs.Prelude.{ℕ, zero, suc, ◌^◌, Bool, cond, not, ◌&&◌, ◌||◌, List, [], ◌∷◌, ◌++◌, length, Ok, Result, ◌==◌, bit_and, count_ones, nat_le, nat_lt}
use Rattle.labels.specs.Coding.{Coding, read_at}
use Rattle.labels.specs.Faults.{Numbered, require}
use Rattle.labels.specs.declared.fault.Reader.TheVariants.{Record as InRecord}
use Rattle.labels.specs.declared.slip.Slip.{Slip}
use Rattle.script.specs.declared.model.Record.{Record}
use Rattle.script.specs.Readers.{Read, then, bind}
use Rattle.script.specs.Fields.{byte, pair, pair_bytes, many, joined}
use Rattle.script.specs.Header.{bit}

-- a record and the slips that it forges, one for each board of its forged map, rising
pub record Entry (L : Type 0) : Type 0 where
  pub note : Record
  pub slips : List (Slip L)

-- a phase number and a label
abbrev pub slip : {L : Type 0} → Coding L → List ℕ → ℕ → Read (Slip L)
slip C b p = then (byte InRecord b p) (λ f q. then (read_at C b q) (λ l r. Ok (record { label = l; phase = f }, r)))

abbrev pub slip_bytes : {L : Type 0} → Coding L → Slip L → List ℕ
slip_bytes C s = s.phase ∷ C.write s.label

-- round r of sender s comes after round a of sender c, and is not 0
abbrev pub later : ℕ → ℕ → ℕ → ℕ → Bool
later a c r s = nat_lt 0 r && (nat_lt a r || (a == r && nat_lt c s))

-- a bad sender forges, and no other
abbrev pub forger : ℕ → ℕ → ℕ → Bool
forger bad s forged = forged == 0 || bit bad s

-- what is checked at the forged map, which stands at p
abbrev pub maps : ℕ → ℕ → ℕ → ℕ → ℕ → ℕ → Result (Unit {0}) Numbered
maps n bad s lost forged p =
    require (nat_lt forged (2 ^ n)) (18, p, InRecord) (
    require (not (lost == 0 && forged == 0)) (19, p, InRecord) (
    require (bit_and lost forged == 0) (20, p, InRecord) (
    require (forger bad s forged) (21, p, InRecord) (Ok tt))))

-- the five fields of a record, for n boards and a map of the bad ones, after the record of round a and sender c
abbrev pub fixed : ℕ → ℕ → ℕ → ℕ → List ℕ → ℕ → Read Record
fixed n bad a c b p =
    then (pair InRecord b p) (λ r p₁.
    then (byte InRecord b p₁) (λ s p₂. require (later a c r s) (17, p, InRecord) (require (nat_lt s n) (18, p₁, InRecord) (
    then (byte InRecord b p₂) (λ lost p₃. require (nat_lt lost (2 ^ n)) (18, p₂, InRecord) (
    then (byte InRecord b p₃) (λ forged p₄. bind (maps n bad s lost forged p₃) (λ _.
    Ok (record { round = r; sender = s; lost = lost; forged = forged }, p₄)))))))))

abbrev pub entry : {L : Type 0} → Coding L → ℕ → ℕ → ℕ → ℕ → List ℕ → ℕ → Read (Entry L)
entry C n bad a c b p =
    then (fixed n bad a c b p) (λ r q.
    then (many (count_ones r.forged) (slip C) b q) (λ ss s.
    Ok (record { note = r; slips = ss }, s)))

-- the records from a place to the end; the first number bounds how many there can be, and as many as there are bytes
-- is enough, since each record has some
abbrev pub entries : {L : Type 0} → Coding L → ℕ → ℕ → ℕ → ℕ → ℕ → List ℕ → ℕ → Read (List (Entry L))
entries C n bad zero a c b p = require (nat_le (length b) p) (13, p, InRecord) (Ok ([], p))
entries C n bad (suc k) a c b p =
    cond (nat_lt p (length b))
    (then (entry C n bad a c b p) (λ e q. then (entries C n bad k e.note.round e.note.sender b q) (λ es r. Ok (e ∷ es, r))))
    (Ok ([], p))

abbrev pub fixed_bytes : Record → List ℕ
fixed_bytes r = pair_bytes r.round ++ (r.sender ∷ (r.lost ∷ (r.forged ∷ [])))

abbrev pub entry_bytes : {L : Type 0} → Coding L → Entry L → List ℕ
entry_bytes C e = fixed_bytes e.note ++ joined (slip_bytes C) e.slips
