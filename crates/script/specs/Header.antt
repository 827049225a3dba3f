-- The header: four bytes, and then those of three fields whose bit stands in the fourth.
use Rattle.std.specs.Prelude.{ℕ, ◌+◌, ◌-◌, ◌*◌, ◌/◌, ◌%◌, ◌^◌, Bool, true, false, not, ◌&&◌, List, [], ◌∷◌, ◌++◌, Some, None, Ok, Option, ◌==◌, nat_le, nat_lt}
use Rattle.std.specs.Option.{unwrap_or}
use Rattle.labels.specs.Faults.{require}
use Rattle.labels.specs.declared.fault.Reader.TheVariants.{Script}
use Rattle.script.specs.declared.model.Header.{Header}
use Rattle.script.specs.Readers.{Read, then}
use Rattle.script.specs.Fields.{byte}

-- which values each field may have, and which is its default
abbrev pub boards_ok : ℕ → Bool
boards_ok n = nat_lt 0 n && nat_le n 7

abbrev pub faults_ok : ℕ → ℕ → Bool
faults_ok n t = nat_lt (3 * t) n

abbrev pub faults_default : ℕ → ℕ
faults_default n = (n - 1) / 3

abbrev pub bad_ok : ℕ → ℕ → Bool
bad_ok n m = nat_lt m (2 ^ n)

abbrev pub phases_ok : ℕ → Bool
phases_ok k = nat_lt 0 k && nat_le k 8

-- bit i of a map
abbrev pub bit : ℕ → ℕ → Bool
bit m i = (m / 2 ^ i) % 2 == 1

-- a field that stands if its bit does: 14 outside its range, 15 at its default
abbrev pub field : Bool → (ℕ → Bool) → ℕ → List ℕ → ℕ → Read (Option ℕ)
field false ok d b p = Ok (None, p)
field true ok d b p = then (byte Script b p) (λ v q. require (ok v) (14, p, Script) (require (not (v == d)) (15, p, Script) (Ok (Some v, q))))

-- the fields after the header map m, for n boards
abbrev pub fields : ℕ → ℕ → List ℕ → ℕ → Read Header
fields n m b p =
    then (field (bit m 0) (faults_ok n) (faults_default n) b p) (λ t q.
    then (field (bit m 1) (bad_ok n) 0 b q) (λ d r.
    then (field (bit m 2) phases_ok 8 b r) (λ f s.
    Ok (record { boards = n; faults = t; bad = d; phases = f }, s))))

-- edition 1, the number of boards, the kind of labels, the header map and its fields
abbrev pub header : ℕ → List ℕ → ℕ → Read Header
header kind b p =
    then (byte Script b p) (λ e p₁. require (e == 1) (14, p, Script) (
    then (byte Script b p₁) (λ n p₂. require (boards_ok n) (14, p₁, Script) (
    then (byte Script b p₂) (λ k p₃. require (k == kind) (14, p₂, Script) (
    then (byte Script b p₃) (λ m p₄. require (nat_le m 7) (14, p₃, Script) (
    fields n m b p₄))))))))

abbrev pub stands : Option ℕ → ℕ
stands None = 0
stands (Some v) = 1

abbrev pub listed : Option ℕ → List ℕ
listed None = []
listed (Some v) = v ∷ []

abbrev pub header_map : Header → ℕ
header_map h = stands h.faults + 2 * stands h.bad + 4 * stands h.phases

abbrev pub header_bytes : ℕ → Header → List ℕ
header_bytes kind h = 1 ∷ (h.boards ∷ (kind ∷ (header_map h ∷ (listed h.faults ++ (listed h.bad ++ listed h.phases)))))

-- the map of bad boards
abbrev pub bad_map : Header → ℕ
bad_map h = unwrap_or h.bad 0
