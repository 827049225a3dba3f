-- What each board heard, read off the trees.
use Rattle.std.proofs.lemmas.Grind.{common_steps}
use Rattle.std.proofs.Common.{◌≡◌, ℕ, ◌+◌, ◌-◌, ◌*◌, ◌/◌, ◌%◌, ◌<◌, ◌≤◌, Bool, List, [], ◌∷◌, ◌++◌, map, length, get_or, take, drop, None, Option, sym, refl, ap, ◌∙◌, suc-mul, add-one, arith}
use borrow.Rule.Slice.PartMut.{put_mid}
use Rattle.std.specs.List.{range_with_len}
use Rattle.std.proofs.lemmas.List.{append_assoc, drop-drop, drop_at, take_at, ext_get_or, length-take, length-drop, get_or-take, get_or-drop, map-append}
use Rattle.std.proofs.lemmas.List.FromFn.{length-map-range_with_len, get_or-map-range_with_len}
use Rattle.std.proofs.lemmas.Nat.{div_below, mod_below, div-mul-add, mod-mul-add}
use Rattle.exchanges.specs.declared.path.Shape.{Shape}
use Rattle.exchanges.specs.Trees.{Trees, grid, reduced, tree_size, workspace}
use Rattle.exchanges.specs.Slots.{Stands, reduced_down}
use Rattle.exchanges.specs.Counts.{all_counting, map_same}
use Rattle.exchanges.specs.Places.{above_none}
use Rattle.exchanges.specs.Ranks.{place_single}
use Rattle.exchanges.proofs.Settle.{all_reduced, beyond_kept}
use Rattle.exchanges.proofs.Spread.{counting_append, workspace_is}

-- the first k places of one of n rows of w places
pub row_below : (n w p k slots : ℕ) → n * w ≤ slots → p < n → k ≤ w → p * w + k ≤ slots
row_below n w p k slots holds l few = grind (arith, common_steps)

-- the slots of the paths of one board stand first in a board's tree
pub row_in : (s : Shape) (slots p : ℕ) → s.n * s.size ≤ slots → p < s.n → p * s.size + s.n ≤ slots
row_in s slots p holds l = grind (arith, common_steps)

module _ {I : Type 0} (n size : ℕ) (ws : List (Option I)) where
  abbrev pub cell : ℕ → Option I
  cell k = get_or ws (k / n * size + k % n) None

  row_is : (p : ℕ) → p * size + n ≤ length ws → take n (drop (p * size) ws) ≡ map cell (range_with_len (p * n) n)
  row_is p l =
      let long : length (take n (drop (p * size) ws)) ≡ n = omega (arith, length-take n (drop (p * size) ws), length-drop (p * size) ws) in
      ext_get_or None (take n (drop (p * size) ws)) (map cell (range_with_len (p * n) n)) (long ∙ sym (length-map-range_with_len cell (p * n) n)) (λ j lj.
      let lj' : j < n = omega arith in
      get_or-take n (drop (p * size) ws) j None lj' ∙ get_or-drop (p * size) ws j None ∙ sym (get_or-map-range_with_len cell (p * n) n j (p * n + j) None lj' refl ∙ ap (λ (x : ℕ). get_or ws (x * size + (p * n + j) % n) None) (div-mul-add p n j lj') ∙ ap (λ (x : ℕ). get_or ws (p * size + x) None) (mod-mul-add p n j lj')))

  -- one row more
  pub heard_more : (p k : ℕ) (xs row entry : List (Option I)) → p * size + n ≤ length ws → p * n + n ≤ length entry → xs ≡ map cell (range_with_len 0 (p * n)) ++ drop (p * n) entry → row ≡ take n (drop (p * size) ws) → k ≡ n → put_mid (p * n) k xs row ≡ map cell (range_with_len 0 ((p + 1) * n)) ++ drop ((p + 1) * n) entry
  heard_more p k xs row entry within room was is e =
      let a = p * n in
      let front = map cell (range_with_len 0 a) in
      let here = map cell (range_with_len a n) in
      let long : length front ≡ a = length-map-range_with_len cell 0 a in
      let next : (p + 1) * n ≡ a + n = ap (λ (x : ℕ). x * n) (add-one p) ∙ omega (arith, suc-mul p n) in
      let at : 0 + a ≡ a = omega arith in
      let rest : drop k (drop a xs) ≡ drop (a + n) entry = ap (λ (l : List (Option I)). drop k (drop a l)) was ∙ ap (drop k) (drop_at front (drop a entry) a long) ∙ drop-drop k a entry ∙ ap (λ (x : ℕ). drop (a + x) entry) e in
      let both : front ++ here ≡ map cell (range_with_len 0 (a + n)) = ap (λ (x : ℕ). front ++ map cell (range_with_len x n)) (sym at) ∙ sym (map-append cell (range_with_len 0 a) (range_with_len (0 + a) n)) ∙ ap (map cell) (sym (counting_append 0 a n)) in
      ap (λ (l : List (Option I)). l ++ (row ++ drop k (drop a xs))) (ap (take a) was ∙ take_at front (drop a entry) a long) ∙ ap (λ (l : List (Option I)). front ++ (row ++ l)) rest ∙ ap (λ (l : List (Option I)). front ++ (l ++ drop (a + n) entry)) (is ∙ row_is p within) ∙ sym (append_assoc front here (drop (a + n) entry)) ∙ ap (λ (l : List (Option I)). l ++ drop (a + n) entry) both ∙ ap (λ (x : ℕ). map cell (range_with_len 0 x) ++ drop x entry) (sym next)

pub grid_reduced : {I : Type 0} (same : I → I → Bool) (n t size : ℕ) (sized : size ≡ tree_size n t) (own ws ws₂ : List (Option I)) (T : Trees I) → Stands n t size own ws T → n * size ≤ length ws → ws₂ ≡ reduced_down same n t size ws t → grid n (λ p q. get_or ws₂ (p * size + q) None) ≡ grid n (λ p q. reduced same n t T t p (q ∷ []))
grid_reduced {I} same n t size sized own ws ws₂ T st room e =
    map_same _ _ (range_with_len 0 (n * n)) (all_counting _ 0 (n * n) (λ k u l.
    let small : k < n * n = omega arith in
    let pos = above_none n k small in
    let deep : t + 1 - 1 ≡ t = omega arith in
    ap (λ (x : List (Option I)). get_or x (k / n * size + k % n) None) e ∙ ap (λ (i : ℕ). get_or (reduced_down same n t size ws t) (k / n * size + i) None) (sym (place_single n (k % n))) ∙ all_reduced same n t size sized own ws T st room (k / n) (k % n ∷ []) (div_below k n n pos small) (mod_below k n pos, refl, tt) (omega arith) (omega arith) ∙ ap (λ (m : ℕ). reduced same n t T m (k / n) (k % n ∷ [])) deep))

pub work_reduced : {I : Type 0} (same : I → I → Bool) (n t size : ℕ) (sized : size ≡ tree_size n t) (own ws ws₁ ws₂ : List (Option I)) (T : Trees I) → Stands n t size own ws₁ T → n * size ≤ length ws₁ → ws₂ ≡ reduced_down same n t size ws₁ t → drop (n * size) ws₁ ≡ drop (n * size) ws → ws₂ ≡ workspace same n t T ++ drop (n * size) ws
work_reduced {I} same n t size sized own ws ws₁ ws₂ T st room e rest =
    let down = reduced_down same n t size ws₁ t in
    let (roomy, beyond) = beyond_kept same n t size sized own ws₁ T st room in
    e ∙ workspace_is same n t size sized T down roomy (all_reduced same n t size sized own ws₁ T st room) ∙ ap (λ (l : List (Option I)). workspace same n t T ++ l) (beyond ∙ rest)
