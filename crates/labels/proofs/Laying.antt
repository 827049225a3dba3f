-- Memory with bytes laid over it.
use Rattle.std.proofs.Common.{◌≡◌, ℕ, zero, suc, ◌+◌, ◌≤◌, List, [], ◌∷◌, ◌++◌, length, take, drop, sym, refl, ap, ◌∙◌, arith, length-append, length-drop, take-append-drop}
use Rattle.std.proofs.lemmas.List.{drop-drop, take_at, drop_at, length-take-le}
use Rattle.labels.specs.Bytes.{Bytes, laid}

pub laid_length : (bs m : List ℕ) (p : ℕ) → p + length bs ≤ length m → length (laid bs p m) ≡ length m
laid_length bs m p h =
    let front : length (take p m) ≡ p = length-take-le p m (omega arith) in
    simp (length-append, length-drop) (omega arith)

-- the part over which they are laid is the bytes
pub laid_part : (bs m : List ℕ) (p : ℕ) → p ≤ length m → take (length bs) (drop p (laid bs p m)) ≡ bs
laid_part bs m p h =
    ap (take (length bs)) (drop_at (take p m) (bs ++ drop (p + length bs) m) p (length-take-le p m h)) ∙ take_at bs (drop (p + length bs) m) (length bs) refl

-- the part itself laid over the memory leaves it as it is
pub laid_own : (bs m : List ℕ) (p n : ℕ) → bs ≡ take n (drop p m) → length bs ≡ n → laid bs p m ≡ m
laid_own bs m p n e k =
    let rest : drop (p + length bs) m ≡ drop n (drop p m) = ap (λ j. drop (p + j) m) k ∙ sym (drop-drop n p m) in
    ap (λ l. take p m ++ (bs ++ l)) rest ∙ ap (λ l. take p m ++ (l ++ drop n (drop p m))) e ∙ ap (λ l. take p m ++ l) (take-append-drop n (drop p m)) ∙ take-append-drop p m

pub bytes_take : (n : ℕ) (b : List ℕ) → Bytes b → Bytes (take n b)
bytes_take zero b h = tt
bytes_take (suc n) [] h = tt
bytes_take (suc n) (x ∷ b) h = (h.0, bytes_take n b h.1)

pub bytes_drop : (n : ℕ) (b : List ℕ) → Bytes b → Bytes (drop n b)
bytes_drop zero b h = h
bytes_drop (suc n) [] h = h
bytes_drop (suc n) (x ∷ b) h = bytes_drop n b h.1
