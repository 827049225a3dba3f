-- The reduction in place leaves in every slot what the path is reduced to.
use Rattle.std.proofs.Common.{◌≡◌, ℕ, zero, suc, ◌+◌, ◌-◌, ◌*◌, ◌<◌, ◌≤◌, Bool, false, List, [], ◌∷◌, map, length, get_or, drop, set, None, fold, Option, sym, refl, ap, ◌∙◌, subst, inl, inr, arith, length-set}
use Rattle.std.specs.List.{range_with_len, AllByRecursion}
use Rattle.std.proofs.lemmas.List.{drop-set-lt}
use Rattle.std.proofs.ByRecursion.{All-weaker, All-map}
use Rattle.std.proofs.lemmas.Bool.{cases_eq}
use Rattle.exchanges.specs.Trees.{IsPath, Trees, put, reduce, reduced, on, others, level, tree_size}
use Rattle.exchanges.specs.Slots.{slot, Stands, Spot, spots_on, spots, settle, reduced_down}
use Rattle.exchanges.specs.Counts.{all_of, all_others, all_counting, map_same}
use Rattle.exchanges.specs.Ranks.{all_paths, all_joined_at}
use Rattle.exchanges.specs.Members.{In, in_joined, in_map, in_counting, in_level}
use Rattle.exchanges.specs.Fill.{put_same, put_cases}
use Rattle.exchanges.proofs.Slots.{slot_below}
use Rattle.exchanges.proofs.Stand.{stands_put}

-- one path of one board reduced, in the trees
abbrev settle_trees : {I : Type 0} → (I → I → Bool) → ℕ → ℕ → Trees I → Spot → Trees I
settle_trees same n t T s = put T s.board s.path (reduce same n t (length s.path) (map (λ q. T s.board (q ∷ s.path)) (others n s.path)))

-- the first j levels reduced
abbrev down_trees : {I : Type 0} → (I → I → Bool) → ℕ → ℕ → Trees I → ℕ → Trees I
down_trees same n t T zero = T
down_trees same n t T (suc j) = fold (settle_trees same n t) (down_trees same n t T j) (spots n (t - j))

-- a path of length k of a board
abbrev At : ℕ → ℕ → Spot → Type 0
At n k s = (s.board < n) × IsPath n s.path × (length s.path ≡ k)

all_spots : (n k : ℕ) → AllByRecursion (At n k) (spots n k)
all_spots n k = all_joined_at (At n k) (spots_on n) (level n k) (All-weaker (λ α. IsPath n α × (length α ≡ k)) _ (λ α h. All-map (At n k) (λ p. record { board = p; path = α }) (range_with_len 0 n) (all_counting (λ p. At n k (record { board = p; path = α })) 0 n (λ p u v. (omega arith, h.0, h.1)))) (level n k) (all_paths n k))

in_spots : (n p : ℕ) (β : List ℕ) → p < n → IsPath n β → In (record { board = p; path = β }) (spots n (length β))
in_spots n p β lp path = in_joined (spots_on n) (record { board = p; path = β }) β (level n (length β)) (in_level n β path) (in_map (λ x. record { board = x; path = β }) p (range_with_len 0 n) (in_counting p 0 n (omega arith) (omega arith)))

module _ {I : Type 0} (same : I → I → Bool) (n t : ℕ) where
  -- what a path gets from what the children hold in given trees
  abbrev gets : Trees I → ℕ → List ℕ → Option I
  gets T p β = reduce same n t (length β) (map (λ q. T p (q ∷ β)) (others n β))

  put_longer : (T : Trees I) (p p' : ℕ) (α β : List ℕ) (v : Option I) (k : ℕ) → length α ≡ k → (length β ≡ k → ⊥) → put T p α v p' β ≡ T p' β
  put_longer T p p' α β v k e d = elim (put_cases T p p' α β v) [ inl s ↦ absurd (d (ap length s.1 ∙ e)) | inr s ↦ s ]

  -- a level leaves the other lengths
  level_kept : (k : ℕ) (T : Trees I) (ss : List Spot) → AllByRecursion (At n k) ss → (p : ℕ) (β : List ℕ) → (length β ≡ k → ⊥) → fold (settle_trees same n t) T ss p β ≡ T p β
  level_kept k T [] a p β d = refl
  level_kept k T (s ∷ ss) a p β d = level_kept k (settle_trees same n t T s) ss a.1 p β d ∙ put_longer T s.board p s.path β _ k a.0.2 d

  -- what is got from the children stays so within the level
  gets_kept : (k : ℕ) (T : Trees I) (s : Spot) → At n k s → (p : ℕ) (β : List ℕ) → length β ≡ k → gets (settle_trees same n t T s) p β ≡ gets T p β
  gets_kept k T s at p β l = ap (reduce same n t (length β)) (map_same _ _ (others n β) (all_of _ (λ q. put_longer T s.board p s.path (q ∷ β) _ k at.2 (λ e. omega arith)) (others n β)))

  spot_kept : (k : ℕ) (T : Trees I) (ss : List Spot) → AllByRecursion (At n k) ss → (p : ℕ) (β : List ℕ) → length β ≡ k → T p β ≡ gets T p β → fold (settle_trees same n t) T ss p β ≡ gets T p β
  spot_kept k T [] a p β l e = e
  spot_kept k T (s ∷ ss) a p β l e =
      let T' = settle_trees same n t T s in
      let back = gets_kept k T s a.0 p β l in
      spot_kept k T' ss a.1 p β l (elim (put_cases T s.board p s.path β (gets T s.board s.path)) [ inl m ↦ ap (λ (x : ℕ). T' x β) m.0 ∙ ap (T' s.board) m.1 ∙ put_same T s.board s.path (gets T s.board s.path) ∙ sym (ap (λ (x : ℕ). gets T x β) m.0 ∙ ap (gets T s.board) m.1) ∙ sym back | inr m ↦ m ∙ e ∙ sym back ]) ∙ back

  spot_made : (k : ℕ) (T : Trees I) (ss : List Spot) → AllByRecursion (At n k) ss → (s : Spot) → In s ss → fold (settle_trees same n t) T ss s.board s.path ≡ gets T s.board s.path
  spot_made k T [] a s i = absurd i
  spot_made k T (g ∷ ss) a s (inl e) =
      let T' = settle_trees same n t T g in
      let back = gets_kept k T g a.0 g.board g.path a.0.2 in
      subst (λ (x : Spot). fold (settle_trees same n t) T' ss x.board x.path ≡ gets T x.board x.path) (sym e) (spot_kept k T' ss a.1 g.board g.path a.0.2 (put_same T g.board g.path (gets T g.board g.path) ∙ sym back) ∙ back)
  spot_made k T (g ∷ ss) a s (inr i) =
      let (b, α) = kept_at_in k ss s a.1 i in
      spot_made k (settle_trees same n t T g) ss a.1 s i ∙ gets_kept k T g a.0 s.board s.path α
    where
      kept_at_in : (k : ℕ) (ss : List Spot) (s : Spot) → AllByRecursion (At n k) ss → In s ss → (s.board < n) × (length s.path ≡ k)
      kept_at_in k [] s a i = absurd i
      kept_at_in k (g ∷ ss) s a (inl e) = subst (λ (x : Spot). (x.board < n) × (length x.path ≡ k)) (sym e) (a.0.0, a.0.2)
      kept_at_in k (g ∷ ss) s a (inr i) = kept_at_in k ss s a.1 i

  -- after j levels, the longer paths are reduced and the others are as heard
  pub down_is : (T : Trees I) (j : ℕ) → j ≤ t → (p : ℕ) (β : List ℕ) → p < n → IsPath n β → 1 ≤ length β → length β ≤ t + 1 → (length β ≤ t - j → down_trees same n t T j p β ≡ T p β) × (t - j < length β → down_trees same n t T j p β ≡ reduced same n t T (t + 1 - length β) p β)
  down_is T zero lj p β lp path one l = (λ h. refl, λ h. let e : t + 1 - length β ≡ 0 = omega arith in sym (ap (λ (m : ℕ). reduced same n t T m p β) e))
  down_is T (suc j) lj p β lp path one l =
      let D = down_trees same n t T j in
      let ih = down_is T j (omega arith) p β lp path one l in
      elim (cases_eq (length β) (t - j)) [ inl e ↦ (λ h. absurd (omega arith), λ h. let made = spot_made (t - j) D (spots n (t - j)) (all_spots n (t - j)) (record { board = p; path = β }) (subst (λ (m : ℕ). In (record { board = p; path = β }) (spots n m)) e (in_spots n p β lp path)) in let deep : t + 1 - length β ≡ suc (t - length β) = omega arith in let low : t + 1 - suc (length β) ≡ t - length β = omega arith in made ∙ ap (reduce same n t (length β)) (map_same _ _ (others n β) (All-weaker (λ q. (q < n) × (on q β ≡ false)) _ (λ q g. (down_is T j (omega arith) p (q ∷ β) lp (g.0, g.1, path) (omega arith) (omega arith)).1 (omega arith) ∙ ap (λ (m : ℕ). reduced same n t T m p (q ∷ β)) low) (others n β) (all_others n β))) ∙ sym (ap (λ (m : ℕ). reduced same n t T m p β) deep)) | inr d ↦ (let kept = level_kept (t - j) D (spots n (t - j)) (all_spots n (t - j)) p β d in (λ h. kept ∙ ih.0 (omega arith), λ h. kept ∙ ih.1 (omega arith))) ]

  module _ (size : ℕ) (sized : size ≡ tree_size n t) (own : List (Option I)) where
    -- the slots follow the trees
    spot_stands : (ws : List (Option I)) (T : Trees I) (s : Spot) (k : ℕ) → At n k s → 1 ≤ k → k ≤ t → Stands n t size own ws T → n * size ≤ length ws → Stands n t size own (settle same n t size ws s) (settle_trees same n t T s)
    spot_stands ws T s k at one l st room =
        subst (λ (v : Option I). Stands n t size own (settle same n t size ws s) (put T s.board s.path v)) (ap (reduce same n t (length s.path)) (map_same _ _ (others n s.path) (All-weaker (λ q. (q < n) × (on q s.path ≡ false)) _ (λ q g. st.holds s.board (q ∷ s.path) at.0 (g.0, g.1, at.1) (omega arith) (omega (arith, at.2))) (others n s.path) (all_others n s.path)))) (put_at s.path at.1 at.2)
      where
        v : Option I
        v = reduce same n t (length s.path) (map (λ q. get_or ws (slot n size s.board (q ∷ s.path)) None) (others n s.path))

        put_at : (α : List ℕ) → IsPath n α → length α ≡ k → Stands n t size own (set ws (slot n size s.board α) v) (put T s.board α v)
        put_at [] path e = absurd (omega arith)
        put_at (q ∷ α) path e = stands_put n t size sized own ws T s.board q α v st room at.0 path (omega arith)

    -- slots that hold the trees, and lie before the rest
    abbrev Lies : List (Option I) → List (Option I) → Trees I → Type 0
    Lies rest ws T = Stands n t size own ws T × (n * size ≤ length ws) × (drop (n * size) ws ≡ rest)

    level_stands : (rest ws : List (Option I)) (T : Trees I) (ss : List Spot) (k : ℕ) → AllByRecursion (At n k) ss → 1 ≤ k → k ≤ t → Lies rest ws T → Lies rest (fold (settle same n t size) ws ss) (fold (settle_trees same n t) T ss)
    level_stands rest ws T [] k a one l st = st
    level_stands rest ws T (s ∷ ss) k a one l st =
        let v = reduce same n t (length s.path) (map (λ q. get_or ws (slot n size s.board (q ∷ s.path)) None) (others n s.path)) in
        let at = slot n size s.board s.path in
        level_stands rest (settle same n t size ws s) (settle_trees same n t T s) ss k a.1 one l (spot_stands ws T s k a.0 one l st.0 st.1, omega (arith, length-set ws at v, st.1), drop-set-lt (n * size) ws at v (slot_below n t size s.board s.path sized a.0.0 a.0.1 (omega (arith, a.0.2)) (omega (arith, a.0.2))) ∙ st.2)

    down_stands : (rest ws : List (Option I)) (T : Trees I) (j : ℕ) → j ≤ t → Lies rest ws T → Lies rest (reduced_down same n t size ws j) (down_trees same n t T j)
    down_stands rest ws T zero lj st = st
    down_stands rest ws T (suc j) lj st =
        level_stands rest (reduced_down same n t size ws j) (down_trees same n t T j) (spots n (t - j)) (t - j) (all_spots n (t - j)) (omega arith) (omega arith) (down_stands rest ws T j (omega arith) st)

    -- at the end each slot holds what its path is reduced to, the leaves what was heard
    pub all_reduced : (ws : List (Option I)) (T : Trees I) → Stands n t size own ws T → n * size ≤ length ws → (p : ℕ) (β : List ℕ) → p < n → IsPath n β → 1 ≤ length β → length β ≤ t + 1 → get_or (reduced_down same n t size ws t) (slot n size p β) None ≡ reduced same n t T (t + 1 - length β) p β
    all_reduced ws T st room p β lp path one l = (down_stands (drop (n * size) ws) ws T t (omega arith) (st, room, refl)).0.holds p β lp path one l ∙ (down_is T t (omega arith) p β lp path one l).1 (omega arith)

    pub beyond_kept : (ws : List (Option I)) (T : Trees I) → Stands n t size own ws T → n * size ≤ length ws → (n * size ≤ length (reduced_down same n t size ws t)) × (drop (n * size) (reduced_down same n t size ws t) ≡ drop (n * size) ws)
    beyond_kept ws T st room = let lies = down_stands (drop (n * size) ws) ws T t (omega arith) (st, room, refl) in (lies.1, lies.2)
