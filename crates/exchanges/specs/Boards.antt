-- Boards: how many there may be, how many of them may be bad, and which are sound.
use Rattle.std.specs.Prelude.{◌≡◌, ℕ, zero, suc, ◌+◌, ◌*◌, ◌/◌, ◌%◌, ◌^◌, ◌<◌, Bool, false, cond, ◌&&◌, ◌==◌, nat_le, nat_lt}

-- the most boards that there may be
abbrev pub most_boards : ℕ
most_boards = 7

-- n boards serve where t of them may be bad
abbrev pub fits : ℕ → ℕ → Bool
fits n t = nat_lt 0 n && (nat_le n most_boards && nat_lt (3 * t) n)

-- how many of the boards 0 to n - 1 pass the test
abbrev pub count : (ℕ → Bool) → ℕ → ℕ
count P zero = 0
count P (suc n) = cond (P n) 1 0 + count P n

-- p is one of n boards, and is not bad
abbrev pub Sound : ℕ → (ℕ → Bool) → ℕ → Type 0
Sound n bad p = (p < n) × (bad p ≡ false)

-- bit p of a map of boards stands for board p
abbrev pub bit : ℕ → ℕ → Bool
bit m p = (m / 2 ^ p) % 2 == 1
