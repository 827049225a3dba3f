-- How readers follow one another, and where they stand.
use Rattle.std.proofs.Common.{◌≡◌, ℕ, ◌+◌, Bool, true, false, cond, List, [], ◌∷◌, ◌++◌, length, drop, IsErrAnd, Ok, Err, Result, sym, refl, ap, ◌∙◌}
use Rattle.std.proofs.lemmas.List.{drop-drop, drop_at}
use Rattle.labels.specs.Faults.{Numbered, numbered, answered, require}
use Rattle.labels.specs.declared.fault.Fault.{Fault}
use Rattle.script.specs.Readers.{Read, then, bind}

-- a chain that ends well: what its first reader answered, and the rest of the chain
pub then_inv : {X Y G : Type 0} (m : Read X) (f : X → ℕ → Result Y Numbered) (y : Y) → then m f ≡ Ok y → ((x : X) (q : ℕ) → m ≡ Ok (x, q) → f x q ≡ Ok y → G) → G
then_inv (Ok x) f y e k = k x.0 x.1 refl e
then_inv (Err g) f y e k = absurd (cc)

pub ok_same : {X : Type 0} (x y : X) (p q : ℕ) → ◌≡◌ {A = Read X} (Ok (x, p)) (Ok (y, q)) → (x ≡ y) × (p ≡ q)
ok_same {X} x y p q e = let s : ◌≡◌ {A = X × ℕ} (x, p) (y, q) = cc in (ap (λ z. z.0) s, ap (λ z. z.1) s)

pub require_inv : {Y : Type 0} (t : Bool) (f : Numbered) (k : Result Y Numbered) (y : Y) → require t f k ≡ Ok y → (t ≡ true) × (k ≡ Ok y)
require_inv true f k y e = (refl, e)
require_inv false f k y e = absurd (cc)

pub bind_inv : {X Y G : Type 0} (m : Result X Numbered) (f : X → Result Y Numbered) (y : Y) → bind m f ≡ Ok y → ((x : X) → m ≡ Ok x → f x ≡ Ok y → G) → G
bind_inv (Ok x) f y e k = k x refl e
bind_inv (Err g) f y e k = absurd (cc)

pub cond_inv : {Y G : Type 0} (t : Bool) (m k : Result Y Numbered) (y : Y) → cond t m k ≡ Ok y → (t ≡ true → m ≡ Ok y → G) → (t ≡ false → k ≡ Ok y → G) → G
cond_inv true m k y e f g = f refl e
cond_inv false m k y e f g = g refl e

-- past what stands at a place
pub past : (b : List ℕ) (p : ℕ) (u l : List ℕ) → drop p b ≡ u ++ l → drop (p + length u) b ≡ l
past b p u l e = sym (drop-drop (length u) p b) ∙ ap (drop (length u)) e ∙ drop_at u l (length u) refl

pub past_one : (b : List ℕ) (p x : ℕ) (l : List ℕ) → drop p b ≡ x ∷ l → drop (p + 1) b ≡ l
past_one b p x l e = past b p (x ∷ []) l e

-- a fault that a reader hands on
pub passed : {X : Type 0} (r : Result X Fault) (e : Fault) → IsErrAnd r (λ y. y ≡ e) → answered r ≡ Err (numbered e)
passed (Ok x) e h = absurd h
passed (Err y) e h = ap (λ z. Err (numbered z)) h
