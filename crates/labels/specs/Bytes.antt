-- Bytes, and numbers of 32 bits in four of them, the high byte first.
use Rattle.std.specs.Prelude.{ℕ, ◌+◌, ◌*◌, ◌/◌, ◌%◌, ◌<◌, List, [], ◌∷◌, ◌++◌, length, take, drop}

-- each number of the list is a byte
abbrev pub Bytes : List ℕ → Type 0
Bytes [] = Unit {0}
Bytes (x ∷ l) = (x < 256) × Bytes l

abbrev pub four_bytes : ℕ → List ℕ
four_bytes n = (n / 16777216 % 256) ∷ (n / 65536 % 256) ∷ (n / 256 % 256) ∷ (n % 256) ∷ []

abbrev pub from_four : ℕ → ℕ → ℕ → ℕ → ℕ
from_four a b c d = a * 16777216 + b * 65536 + c * 256 + d

-- memory with bytes laid over it from place p on; what lies before and after them is as it was
abbrev pub laid : List ℕ → ℕ → List ℕ → List ℕ
laid bytes p m = take p m ++ (bytes ++ drop (p + length bytes) m)
