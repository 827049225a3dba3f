-- The paths of a tree in their order have the places from 0 on, so that the trees of all boards are one list of slots. Assumes nothing.
use Rattle.std.proofs.Common.{◌≡◌, ℕ, zero, suc, ◌+◌, ◌-◌, ◌*◌, ◌<◌, ◌≤◌, Bool, List, [], ◌∷◌, ◌++◌, map, length, get_or, take, drop, None, Option, sym, refl, ap, ◌∙◌, suc-mul, zero-mul, add-one, arith, take-append-drop}
use Rattle.std.specs.List.{range_with_len, flat_map, AllByRecursion}
use Rattle.std.proofs.lemmas.List.Concat.{flat_map-append}
use Rattle.std.proofs.lemmas.List.Folds.{flat_map-map}
use Rattle.std.proofs.lemmas.List.{map-append, ext_get_or, length-map, length-take, get_or-map, get_or-take, append-nil}
use Rattle.std.proofs.lemmas.Simd.{map-map}
use Rattle.std.proofs.lemmas.List.FromFn.{length-range_with_len, get_or-range_with_len, fill_by_all}
use Rattle.std.proofs.ByRecursion.{All-weaker}
use Rattle.exchanges.specs.Trees.{IsPath, Trees, others, level, rank, place, start, paths, paths_of, tree_size, reduced, workspace}
use Rattle.exchanges.specs.Slots.{slot}
use Rattle.exchanges.specs.Counts.{length_others, all_counting, map_same}
use Rattle.exchanges.specs.Ranks.{all_paths, all_joined_at}
use Rattle.exchanges.proofs.Orders.{joined_alike}
use Rattle.exchanges.proofs.Children.{other_index}

pub counting_append : (a m k : ℕ) → range_with_len a (m + k) ≡ range_with_len a m ++ range_with_len (a + m) k
counting_append a zero k = let z : 0 + k ≡ k = omega arith in let b : a + 0 ≡ a = omega arith in ap (range_with_len a) z ∙ ap (λ (x : ℕ). range_with_len x k) (sym b)
counting_append a (suc m) k =
    let s : suc m + k ≡ suc (m + k) = omega arith in
    let b : a + 1 + m ≡ a + suc m = omega arith in
    ap (range_with_len a) s ∙ ap (λ l. a ∷ l) (counting_append (a + 1) m k ∙ ap (λ (x : ℕ). range_with_len (a + 1) m ++ range_with_len x k) b)

counting_last : (a m : ℕ) → range_with_len a (suc m) ≡ range_with_len a m ++ ((a + m) ∷ [])
counting_last a m = ap (range_with_len a) (sym (add-one m)) ∙ counting_append a m 1

counting_shift : (a b m : ℕ) → map (λ i. a + i) (range_with_len b m) ≡ range_with_len (a + b) m
counting_shift a b zero = refl
counting_shift a b (suc m) = ap (λ l. (a + b) ∷ l) (counting_shift a (b + 1) m ∙ (let e : a + (b + 1) ≡ a + b + 1 = omega arith in ap (λ (x : ℕ). range_with_len x m) e))

-- blocks of m numbers, one behind the other
blocks : (m a k : ℕ) → flat_map (λ i. range_with_len (i * m) m) (range_with_len a k) ≡ range_with_len (a * m) (k * m)
blocks m a zero = ap (range_with_len (a * m)) (sym (zero-mul m))
blocks m a (suc k) =
    let next : (a + 1) * m ≡ a * m + m = ap (λ (x : ℕ). x * m) (add-one a) ∙ omega (arith, suc-mul a m) in
    let all : suc k * m ≡ m + k * m = omega (arith, suc-mul k m) in
    ap (λ l. range_with_len (a * m) m ++ l) (blocks m (a + 1) k ∙ ap (λ (x : ℕ). range_with_len x (k * m)) next) ∙ sym (counting_append (a * m) m (k * m)) ∙ ap (range_with_len (a * m)) (sym all)

map_joined : {X Y Z : Type 0} (f : X → Y) (g : Z → List X) (zs : List Z) → map f (flat_map g zs) ≡ flat_map (λ z. map f (g z)) zs
map_joined f g [] = refl
map_joined f g (z ∷ zs) = map-append f (g z) (flat_map g zs) ∙ ap (λ l. map f (g z) ++ l) (map_joined f g zs)

abbrev children : ℕ → List ℕ → List (List ℕ)
children n α = map (λ q. q ∷ α) (others n α)

child_ranks : (n k : ℕ) (α : List ℕ) → IsPath n α → length α ≡ k → map (rank n) (children n α) ≡ range_with_len (rank n α * (n - k)) (n - k)
child_ranks n k α path e =
    let long : length (others n α) ≡ n - k = omega (arith, length_others n α path) in
    map-map (rank n) (λ q. q ∷ α) (others n α) ∙ ext_get_or 0 (map (λ q. rank n (q ∷ α)) (others n α)) (range_with_len (rank n α * (n - k)) (n - k)) (length-map (others n α) (λ q. rank n (q ∷ α)) ∙ long ∙ sym (length-range_with_len (rank n α * (n - k)) (n - k))) (λ j l. let in_others : j < length (others n α) = omega (arith, length-map (others n α) (λ q. rank n (q ∷ α))) in let in_row : j < n - k = omega arith in get_or-map (λ q. rank n (q ∷ α)) (others n α) j 0 0 in_others ∙ ap (λ (x : ℕ). rank n α * (n - length α) + x) (other_index n α j path in_others) ∙ ap (λ (m : ℕ). rank n α * (n - m) + j) e ∙ sym (get_or-range_with_len (rank n α * (n - k)) (n - k) j 0 in_row))

level_ranks : (n k : ℕ) → map (rank n) (level n k) ≡ range_with_len 0 (paths_of n k)
level_ranks n zero = refl
level_ranks n (suc k) =
    map_joined (rank n) (children n) (level n k) ∙ joined_alike (λ α. map (rank n) (children n α)) (λ α. range_with_len (rank n α * (n - k)) (n - k)) (level n k) (All-weaker (λ α. IsPath n α × (length α ≡ k)) _ (λ α h. child_ranks n k α h.0 h.1) (level n k) (all_paths n k)) ∙ sym (flat_map-map (λ i. range_with_len (i * (n - k)) (n - k)) (rank n) (level n k)) ∙ ap (flat_map (λ i. range_with_len (i * (n - k)) (n - k))) (level_ranks n k) ∙ blocks (n - k) 0 (paths_of n k) ∙ ap (λ (x : ℕ). range_with_len x (paths_of n k * (n - k))) (zero-mul (n - k))

level_places : (n k : ℕ) → map (place n) (level n k) ≡ range_with_len (start n k) (paths_of n k)
level_places n k =
    let z : start n k + 0 ≡ start n k = omega arith in
    map_same (place n) (λ α. start n k + rank n α) (level n k) (All-weaker (λ α. IsPath n α × (length α ≡ k)) _ (λ α h. ap (λ (m : ℕ). start n m + rank n α) h.1) (level n k) (all_paths n k)) ∙ sym (map-map (λ i. start n k + i) (rank n) (level n k)) ∙ ap (map (λ i. start n k + i)) (level_ranks n k) ∙ counting_shift (start n k) 0 (paths_of n k) ∙ ap (λ (x : ℕ). range_with_len x (paths_of n k)) z

first_places : (n m : ℕ) → flat_map (λ k. map (place n) (level n k)) (range_with_len 1 m) ≡ range_with_len 0 (start n (suc m))
first_places n zero = refl
first_places n (suc m) =
    let f : ℕ → List ℕ = λ k. map (place n) (level n k) in
    let last : 1 + m ≡ suc m = omega arith in
    let from : 0 + start n (suc m) ≡ start n (suc m) = omega arith in
    ap (flat_map f) (counting_last 1 m) ∙ flat_map-append f (range_with_len 1 m) ((1 + m) ∷ []) ∙ ap (λ l. l ++ (f (1 + m) ++ [])) (first_places n m) ∙ ap (λ l. range_with_len 0 (start n (suc m)) ++ l) (append-nil (f (1 + m)) ∙ ap f last ∙ level_places n (suc m) ∙ ap (λ (x : ℕ). range_with_len x (paths_of n (suc m))) (sym from)) ∙ sym (counting_append 0 (start n (suc m)) (paths_of n (suc m)))

tree_places : (n t : ℕ) → map (place n) (paths n t) ≡ range_with_len 0 (tree_size n t)
tree_places n t =
    let e : suc (t + 1) ≡ t + 2 = omega arith in
    map_joined (place n) (level n) (range_with_len 1 (t + 1)) ∙ first_places n (t + 1) ∙ ap (λ (m : ℕ). range_with_len 0 (start n m)) e

all_tree : (n t : ℕ) → AllByRecursion (λ α. IsPath n α × (1 ≤ length α) × (length α ≤ t + 1)) (paths n t)
all_tree n t =
    let P : List ℕ → Type 0 = λ α. IsPath n α × (1 ≤ length α) × (length α ≤ t + 1) in
    all_joined_at P (level n) (range_with_len 1 (t + 1)) (all_counting (λ k. AllByRecursion P (level n k)) 1 (t + 1) (λ k u v. All-weaker (λ α. IsPath n α × (length α ≡ k)) P (λ α h. (h.0, omega (arith, h.1), omega (arith, h.1))) (level n k) (all_paths n k)))

-- slots that hold what every path is reduced to are the workspace, with what lies beyond
module _ {I : Type 0} (same : I → I → Bool) (n t size : ℕ) (sized : size ≡ tree_size n t) (T : Trees I) (ws : List (Option I)) (room : n * size ≤ length ws) (holds : (p : ℕ) (α : List ℕ) → p < n → IsPath n α → 1 ≤ length α → length α ≤ t + 1 → get_or ws (slot n size p α) None ≡ reduced same n t T (t + 1 - length α) p α) where
  abbrev at : ℕ → Option I
  at i = get_or ws i None

  row : (p : ℕ) → p < n → map (λ α. reduced same n t T (t + 1 - length α) p α) (paths n t) ≡ map at (range_with_len (p * size) size)
  row p l =
      let z : p * size + 0 ≡ p * size = omega arith in
      sym (map_same (λ α. at (p * size + place n α)) (λ α. reduced same n t T (t + 1 - length α) p α) (paths n t) (All-weaker (λ α. IsPath n α × (1 ≤ length α) × (length α ≤ t + 1)) _ (λ α h. holds p α l h.0 h.1 h.2) (paths n t) (all_tree n t))) ∙ sym (map-map (λ i. at (p * size + i)) (place n) (paths n t)) ∙ ap (map (λ i. at (p * size + i))) (tree_places n t ∙ ap (range_with_len 0) (sym sized)) ∙ sym (map-map at (λ i. p * size + i) (range_with_len 0 size)) ∙ ap (map at) (counting_shift (p * size) 0 size ∙ ap (λ (x : ℕ). range_with_len x size) z)

  front : workspace same n t T ≡ take (n * size) ws
  front =
      joined_alike (λ p. map (λ α. reduced same n t T (t + 1 - length α) p α) (paths n t)) (λ p. map at (range_with_len (p * size) size)) (range_with_len 0 n) (all_counting _ 0 n (λ p u v. row p (omega arith))) ∙ sym (map_joined at (λ p. range_with_len (p * size) size) (range_with_len 0 n)) ∙ ap (map at) (blocks size 0 n ∙ ap (λ (x : ℕ). range_with_len x (n * size)) (zero-mul size)) ∙ sym (fill_by_all at (take (n * size) ws) (n * size) None (omega (arith, length-take (n * size) ws)) (λ k l. get_or-take (n * size) ws k None l))

  pub workspace_is : ws ≡ workspace same n t T ++ drop (n * size) ws
  workspace_is = sym (take-append-drop (n * size) ws) ∙ ap (λ l. l ++ drop (n * size) ws) (sym front)
