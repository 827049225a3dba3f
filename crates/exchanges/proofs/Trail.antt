-- The path in the first entries of a list: its length, its parts, and where it stands within its level.
use Rattle.std.proofs.Common.{◌≡◌, ℕ, zero, suc, ◌+◌, ◌-◌, ◌*◌, ◌/◌, ◌<◌, ◌≤◌, Bool, true, false, ◌||◌, eqb, List, ◌∷◌, length, get_or, take, sym, refl, ap, ◌∙◌, subst, add-one, arith}
use Rattle.std.specs.List.{list_any}
use Rattle.std.proofs.lemmas.Nat.{div-mul-add}
use Rattle.std.proofs.lemmas.List.Folds.{list_any_more}
use Rattle.exchanges.specs.declared.path.Path.{Path}
use Rattle.exchanges.specs.Trees.{on, lower, rank, paths_of, IsPath}
use Rattle.exchanges.specs.Slots.{trail}
use Rattle.exchanges.specs.Ranks.{rank_below, other_at}
use Rattle.exchanges.proofs.Table.{paths_small}

pub length_trail : (bs : List ℕ) (k : ℕ) → length (trail bs k) ≡ k
length_trail bs zero = refl
length_trail bs (suc k) = ap suc (length_trail bs k)

either_way : (a b : Bool) → (a || b) ≡ (b || a)
either_way true true = refl
either_way true false = refl
either_way false true = refl
either_way false false = refl

pub on_taken : (q : ℕ) (bs : List ℕ) (k : ℕ) → k ≤ length bs → list_any (eqb q) (take k bs) ≡ on q (trail bs k)
on_taken q bs zero l = refl
on_taken q bs (suc k) l = ap (λ (m : ℕ). list_any (eqb q) (take m bs)) (sym (add-one k)) ∙ list_any_more (eqb q) bs k 0 (omega arith) ∙ either_way _ (eqb q (get_or bs k 0)) ∙ ap (λ (b : Bool). eqb q (get_or bs k 0) || b) (on_taken q bs k (omega arith))

-- the place of a path among those of its length is small
pub index_small : (path : Path) → path.index < 210
index_small path =
    let n = path.shape.n in
    let k = path.len in
    let short : k ≤ 3 = omega (arith, path.short, path.shape.few, path.shape.fewer) in
    omega (arith, path.placed, rank_below n (trail path.boards k) path.differ, ap (paths_of n) (length_trail path.boards k), paths_small n k path.shape.few short)

-- a path of k + 1 boards: its last board, and the rest of it
pub record Parts (path : Path) (k : ℕ) : Type 0 where
  pub last : get_or path.boards k 0 < path.shape.n
  pub rest : IsPath path.shape.n (trail path.boards k)
  pub parts : trail path.boards path.len ≡ get_or path.boards k 0 ∷ trail path.boards k
  pub index : path.index / (path.shape.n - k) ≡ rank path.shape.n (trail path.boards k)
  pub left : k < path.shape.n

pub parts_of : (path : Path) (k : ℕ) → path.len ≡ suc k → Parts path k
parts_of path k e =
    let n = path.shape.n in
    let q = get_or path.boards k 0 in
    let α = trail path.boards k in
    let is : trail path.boards path.len ≡ q ∷ α = ap (trail path.boards) e in
    let whole : IsPath n (q ∷ α) = subst (λ (β : List ℕ). IsPath n β) is path.differ in
    let long = length_trail path.boards k in
    let below = (other_at n q α whole).1 in
    let at : path.index ≡ rank n α * (n - k) + (q - lower q α) = path.placed ∙ ap (rank n) is ∙ ap (λ (m : ℕ). rank n α * (n - m) + (q - lower q α)) long in
    record {
      last = whole.0;
      rest = whole.2;
      parts = is;
      index = ap (λ (x : ℕ). x / (n - k)) at ∙ div-mul-add (rank n α) (n - k) (q - lower q α) (omega arith);
      left = omega arith;
    }

-- a path with a board more
pub record More (path : Path) (i q : ℕ) : Type 0 where
  pub whole : IsPath path.shape.n (q ∷ trail path.boards path.len)
  pub index : path.index * (path.shape.n - path.len) + i ≡ rank path.shape.n (q ∷ trail path.boards path.len)
  pub small : path.index * (path.shape.n - path.len) + i < 210

pub more_of : (path : Path) (i q : ℕ) → path.len ≤ path.shape.t → q < path.shape.n → on q (trail path.boards path.len) ≡ false → q - lower q (trail path.boards path.len) ≡ i → More path i q
more_of path i q short l off at =
    let n = path.shape.n in
    let k = path.len in
    let α = trail path.boards k in
    let long = length_trail path.boards k in
    let whole : IsPath n (q ∷ α) = (l, off, path.differ) in
    let few : suc k ≤ 3 = omega (arith, path.shape.few, path.shape.fewer) in
    let is : path.index * (n - k) + i ≡ rank n (q ∷ α) = ap (λ (x : ℕ). x * (n - k) + i) path.placed ∙ ap (λ (x : ℕ). rank n α * (n - k) + x) (sym at) ∙ ap (λ (m : ℕ). rank n α * (n - m) + (q - lower q α)) (sym long) in
    record {
      whole = whole;
      index = is;
      small = omega (arith, is, rank_below n (q ∷ α) whole, ap (λ (m : ℕ). paths_of n (suc m)) long, paths_small n (suc k) path.shape.few few);
    }
