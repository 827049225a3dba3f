-- The plain fields: a byte, two bytes with the high one first, and a row of like fields.
use Rattle.std.specs.Prelude.{ℕ, zero, suc, ◌+◌, ◌*◌, ◌/◌, ◌%◌, List, [], ◌∷◌, ◌++◌, drop, Ok, Err}
use Rattle.labels.specs.declared.fault.Reader.{Reader}
use Rattle.script.specs.Readers.{Read, then}

abbrev pub first : Reader → ℕ → List ℕ → Read ℕ
first d p [] = Err (13, p, d)
first d p (x ∷ l) = Ok (x, p + 1)

-- the byte at place p; 13 where the input ends before it
abbrev pub byte : Reader → List ℕ → ℕ → Read ℕ
byte d b p = first d p (drop p b)

abbrev pub first_two : Reader → ℕ → List ℕ → Read ℕ
first_two d p [] = Err (13, p, d)
first_two d p (x ∷ []) = Err (13, p, d)
first_two d p (x ∷ (y ∷ l)) = Ok (x * 256 + y, p + 2)

-- the number in the two bytes from place p on; 13 at its first byte where the input ends before or inside it
abbrev pub pair : Reader → List ℕ → ℕ → Read ℕ
pair d b p = first_two d p (drop p b)

abbrev pub pair_bytes : ℕ → List ℕ
pair_bytes x = x / 256 ∷ (x % 256 ∷ [])

-- so many values, one after another
abbrev pub many : {X : Type 0} → ℕ → (List ℕ → ℕ → Read X) → List ℕ → ℕ → Read (List X)
many zero f b p = Ok ([], p)
many (suc k) f b p = then (f b p) (λ x q. then (many k f b q) (λ xs r. Ok (x ∷ xs, r)))

abbrev pub joined : {X : Type 0} → (X → List ℕ) → List X → List ℕ
joined w [] = []
joined w (x ∷ xs) = w x ++ joined w xs
