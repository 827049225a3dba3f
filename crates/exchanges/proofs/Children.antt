-- The slots of a path's children stand side by side, in rising order.
use Rattle.std.proofs.Common.{◌≡◌, ℕ, zero, suc, ◌+◌, ◌-◌, ◌*◌, ◌<◌, ◌≤◌, Bool, false, cond, not, List, [], ◌∷◌, map, length, get_or, take, drop, set, None, count_by, filter, Option, sym, refl, ap, ◌∙◌, inl, inr, suc-mul, mul-le-mul, arith}
use Rattle.std.specs.List.{range_with_len, AllByRecursion}
use Rattle.std.proofs.lemmas.List.{ext_get_or, length-take, length-drop, length-map, get_or-take, get_or-drop, get_or-map}
use Rattle.std.proofs.lemmas.Bool.{cases_Bool, cond-true, cond-false}
use Rattle.exchanges.specs.declared.path.Path.{Path}
use Rattle.exchanges.specs.Trees.{IsPath, on, others, lower, rank, start, paths_of, tree_size, place, picked}
use Rattle.exchanges.specs.Slots.{trail, slot, settle}
use Rattle.exchanges.specs.Counts.{length_others, all_others, count_last}
use Rattle.exchanges.specs.Ranks.{off_below, rank_below}
use Rattle.exchanges.proofs.Slots.{start_mono, all_small}
use Rattle.exchanges.proofs.Trail.{length_trail}

-- where the number at a place among those kept stands
kept_index : (f : ℕ → Bool) (a m j d : ℕ) → j < length (filter f (range_with_len a m)) → count_by f (range_with_len 0 (get_or (filter f (range_with_len a m)) j d)) ≡ count_by f (range_with_len 0 a) + j
kept_index f a zero j d l = absurd (omega arith)
kept_index f a (suc m) zero d l =
    let rest = filter f (range_with_len (a + 1) m) in
    let last = count_last f a in
    elim (cases_Bool (f a)) [ inl y ↦ (let is = cond-true (f a) (a ∷ rest) rest y in ap (λ (xs : List ℕ). count_by f (range_with_len 0 (get_or xs 0 d))) is ∙ omega arith) | inr y ↦ (let is = cond-false (f a) (a ∷ rest) rest y in let ih = kept_index f (a + 1) m 0 d (omega (arith, ap length is)) in let none : ◌≡◌ {A = ℕ} (cond (f a) 1 0) 0 = ap (λ (b : Bool). cond b 1 0) y in ap (λ (xs : List ℕ). count_by f (range_with_len 0 (get_or xs 0 d))) is ∙ ih ∙ omega arith) ]
kept_index f a (suc m) (suc j) d l =
    let rest = filter f (range_with_len (a + 1) m) in
    let last = count_last f a in
    elim (cases_Bool (f a)) [ inl y ↦ (let is = cond-true (f a) (a ∷ rest) rest y in let ih = kept_index f (a + 1) m j d (omega (arith, ap length is)) in let some : ◌≡◌ {A = ℕ} (cond (f a) 1 0) 1 = ap (λ (b : Bool). cond b 1 0) y in ap (λ (xs : List ℕ). count_by f (range_with_len 0 (get_or xs (suc j) d))) is ∙ ih ∙ omega arith) | inr y ↦ (let is = cond-false (f a) (a ∷ rest) rest y in let ih = kept_index f (a + 1) m (suc j) d (omega (arith, ap length is)) in let none : ◌≡◌ {A = ℕ} (cond (f a) 1 0) 0 = ap (λ (b : Bool). cond b 1 0) y in ap (λ (xs : List ℕ). count_by f (range_with_len 0 (get_or xs (suc j) d))) is ∙ ih ∙ omega arith) ]

pub other_index : (n : ℕ) (α : List ℕ) (j : ℕ) → IsPath n α → j < length (others n α) → get_or (others n α) j 0 - lower (get_or (others n α) j 0) α ≡ j
other_index n α j path l =
    omega (arith, kept_index (λ q. not (on q α)) 0 n j 0 l, off_below (get_or (others n α) j 0) n α path)

all_at : (P : ℕ → Type 0) (xs : List ℕ) (i d : ℕ) → AllByRecursion P xs → i < length xs → P (get_or xs i d)
all_at P [] i d a l = absurd (omega arith)
all_at P (x ∷ xs) zero d a l = a.0
all_at P (x ∷ xs) (suc i) d a l = all_at P xs i d a.1 (omega arith)

-- q is the board at place i among those off the path
pub record Other (n : ℕ) (α : List ℕ) (i q : ℕ) : Type 0 where
  pub board : q < n
  pub off : on q α ≡ false
  pub next : q - lower q α ≡ i

pub other_in : (n : ℕ) (α : List ℕ) (i q : ℕ) → IsPath n α → i < length (others n α) → q ≡ get_or (others n α) i 0 → Other n α i q
other_in n α i q path l e =
    let (below, off) = all_at (λ q. (q < n) × (on q α ≡ false)) (others n α) i 0 (all_others n α) l in
    record {
      board = omega arith;
      off = ap (λ (x : ℕ). on x α) e ∙ off;
      next = ap (λ (x : ℕ). x - lower x α) e ∙ other_index n α i path l;
    }

-- where the slots of a path's children begin
abbrev children_at : ℕ → ℕ → ℕ → List ℕ → ℕ
children_at n size p α = p * size + (start n (length α + 1) + rank n α * (n - length α))

module _ (n t size p : ℕ) (α : List ℕ) (sized : size ≡ tree_size n t) (lp : p < n) (path : IsPath n α) (one : 1 ≤ length α) (short : length α ≤ t) where
  pub children_below : children_at n size p α + (n - length α) ≤ n * size
  children_below =
      let k = length α in
      let rows = mul-le-mul {n₁ = suc (rank n α)} {m₁ = n - k} {n₂ = paths_of n k} {m₂ = n - k} (rank_below n α path) (omega arith) in
      let e : suc (suc k) + (t - k) ≡ t + 2 = omega arith in
      let top : start n (suc (suc k)) ≡ start n (suc k) + paths_of n (suc k) = refl in
      let k1 : k + 1 ≡ suc k = omega arith in
      let boards = mul-le-mul {n₁ = suc p} {m₁ = size} {n₂ = n} {m₂ = size} lp (omega arith) in
      omega (arith, suc-mul (rank n α) (n - k), start_mono n (suc (suc k)) (t - k), ap (start n) e, ap (start n) k1, suc-mul p size)

  pub children_are : {I : Type 0} (ws : List (Option I)) → n * size ≤ length ws → take (n - length α) (drop (children_at n size p α) ws) ≡ map (λ q. get_or ws (slot n size p (q ∷ α)) None) (others n α)
  children_are ws room =
      let k = length α in
      let f : ℕ → Option _ = λ q. get_or ws (slot n size p (q ∷ α)) None in
      let size_is : length (others n α) ≡ n - k = omega (arith, length_others n α path) in
      let left : length (take (n - k) (drop (children_at n size p α) ws)) ≡ n - k = omega (arith, length-take (n - k) (drop (children_at n size p α) ws), length-drop (children_at n size p α) ws, children_below) in
      let k1 : k + 1 ≡ suc k = omega arith in
      ext_get_or None (take (n - k) (drop (children_at n size p α) ws)) (map f (others n α)) (left ∙ sym size_is ∙ sym (length-map (others n α) f))
      (λ j l. let jn : j < n - k = omega arith in let at : children_at n size p α + j ≡ slot n size p (get_or (others n α) j 0 ∷ α) = omega (arith, other_index n α j path (omega arith), ap (start n) k1) in
      get_or-take (n - k) (drop (children_at n size p α) ws) j None jn ∙ get_or-drop (children_at n size p α) ws j None ∙ ap (λ (i : ℕ). get_or ws i None) at ∙ sym (get_or-map f (others n α) j 0 None (omega arith)))

-- the same for a path of the code
module _ (path : Path) (slots p kr ch : ℕ) (holds : path.shape.n * path.shape.size ≤ slots) (lp : p < path.shape.n) (one : 1 ≤ path.len) (short : path.len ≤ path.shape.t) (k_is : kr ≡ path.len) (ch_is : ch ≡ start path.shape.n (path.len + 1) + rank path.shape.n (trail path.boards path.len) * (path.shape.n - path.len)) where
  abbrev n : ℕ
  n = path.shape.n

  abbrev t : ℕ
  t = path.shape.t

  abbrev size : ℕ
  size = path.shape.size

  abbrev α : List ℕ
  α = trail path.boards path.len

  long : length α ≡ path.len
  long = length_trail path.boards path.len

  at_is : p * size + ch ≡ children_at n size p α
  at_is = ap (λ (x : ℕ). p * size + x) (ch_is ∙ ap (λ (m : ℕ). start n (m + 1) + rank n α * (n - m)) (sym long))

  width_is : n - kr ≡ n - length α
  width_is = ap (λ (m : ℕ). n - m) (k_is ∙ sym long)

  pub children_in : (p * size + ch + (n - kr) ≤ slots) × (p * size + ch < 1814)
  children_in =
      let below = children_below n t size p α path.shape.sized lp path.differ (omega (arith, long)) (omega (arith, long)) in
      let small = all_small n t path.shape.few path.shape.fewer in
      let same = ap (λ (x : ℕ). n * x) path.shape.sized in
      (omega (arith, at_is, width_is), omega (arith, at_is))

  pub reduced_is : {I : Type 0} (same : I → I → Bool) (ws : List (Option I)) (at : ℕ) (item : Option I) → length ws ≡ slots → at ≡ place n α → item ≡ picked same (n - kr - t) (take (n - kr) (drop (p * size + ch) ws)) (take (n - kr) (drop (p * size + ch) ws)) → set ws (p * size + at) item ≡ settle same n t size ws (record { board = p; path = α })
  reduced_is {I} same ws at item l e d =
      let part : take (n - kr) (drop (p * size + ch) ws) ≡ map (λ q. get_or ws (slot n size p (q ∷ α)) None) (others n α) = ap (λ (m : ℕ). take m (drop (p * size + ch) ws)) width_is ∙ ap (λ (i : ℕ). take (n - length α) (drop i ws)) at_is ∙ children_are n t size p α path.shape.sized lp path.differ (omega (arith, long)) (omega (arith, long)) ws (omega arith) in
      ap (λ (i : ℕ). set ws (p * size + i) item) e ∙ ap (set ws (slot n size p α)) (d ∙ ap (λ (m : ℕ). picked same (m - t) (take (n - kr) (drop (p * size + ch) ws)) (take (n - kr) (drop (p * size + ch) ws))) width_is ∙ ap (λ (l : List (Option I)). picked same (n - length α - t) l l) part)
