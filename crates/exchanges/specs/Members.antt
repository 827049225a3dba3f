-- What stands in the lists of paths and carries.
use Rattle.std.specs.Prelude.{◌≡◌, ℕ, zero, suc, ◌+◌, ◌<◌, ◌≤◌, Bool, true, false, not, ◌⊎◌, List, [], ◌∷◌, ◌++◌, map, length, filter, refl}
use Rattle.std.proofs.Common.{sym, ap, subst, ◌∙◌, inl, inr, arith}
use Rattle.std.specs.List.{range_with_len, flat_map, AllByRecursion}
use Rattle.std.proofs.ByRecursion.{All-map, All-weaker}
use Rattle.std.proofs.lemmas.Bool.{cases_eq, cond_both, not_from_false, both_ways}
use Rattle.exchanges.specs.Trees.{IsPath, on, others, level, Hop, hops}
use Rattle.exchanges.specs.Counts.{all_counting, all_others}
use Rattle.exchanges.specs.Ranks.{all_paths, all_joined_at}

abbrev pub In : {X : Type 0} → X → List X → Type 0
In x [] = ⊥
In x (y ∷ ys) = (x ≡ y) ⊎ In x ys

in_left : {X : Type 0} (x : X) (xs ys : List X) → In x xs → In x (xs ++ ys)
in_left x [] ys h = absurd h
in_left x (y ∷ xs) ys (inl e) = inl e
in_left x (y ∷ xs) ys (inr h) = inr (in_left x xs ys h)

in_right : {X : Type 0} (x : X) (xs ys : List X) → In x ys → In x (xs ++ ys)
in_right x [] ys h = h
in_right x (y ∷ xs) ys h = inr (in_right x xs ys h)

pub in_joined : {X Y : Type 0} (f : Y → List X) (x : X) (y : Y) (ys : List Y) → In y ys → In x (f y) → In x (flat_map f ys)
in_joined f x y [] h g = absurd h
in_joined f x y (z ∷ ys) (inl e) g = in_left x (f z) (flat_map f ys) (subst (λ w. In x (f w)) e g)
in_joined f x y (z ∷ ys) (inr h) g = in_right x (f z) (flat_map f ys) (in_joined f x y ys h g)

pub in_map : {X Y : Type 0} (f : Y → X) (y : Y) (ys : List Y) → In y ys → In (f y) (map f ys)
in_map f y [] h = absurd h
in_map f y (z ∷ ys) (inl e) = inl (ap f e)
in_map f y (z ∷ ys) (inr h) = inr (in_map f y ys h)

in_kept : {X : Type 0} (f : X → Bool) (x : X) (xs : List X) → In x xs → f x ≡ true → In x (filter f xs)
in_kept f x [] h t = absurd h
in_kept f x (y ∷ xs) (inl e) t = cond_both (f y) (y ∷ filter f xs) (filter f xs) (λ l. In x l) (λ d. inl e) (λ d. absurd (both_ways (f y) d (sym (ap f e) ∙ t)))
in_kept f x (y ∷ xs) (inr h) t =
    let ih = in_kept f x xs h t in
    cond_both (f y) (y ∷ filter f xs) (filter f xs) (λ l. In x l) (λ d. inr ih) (λ d. ih)

pub in_counting : (x a n : ℕ) → a ≤ x → x < a + n → In x (range_with_len a n)
in_counting x a zero g h = absurd (omega arith)
in_counting x a (suc n) g h = elim (cases_eq x a) [ inl e ↦ inl e | inr d ↦ inr (in_counting x (a + 1) n (omega arith) (omega arith)) ]

pub in_others : (n q : ℕ) (α : List ℕ) → q < n → on q α ≡ false → In q (others n α)
in_others n q α l off = in_kept (λ x. not (on x α)) q (range_with_len 0 n) (in_counting q 0 n (omega arith) (omega arith)) (not_from_false (on q α) off)

pub in_level : (n : ℕ) (α : List ℕ) → IsPath n α → In α (level n (length α))
in_level n [] h = inl refl
in_level n (q ∷ α) h = in_joined (λ β. map (λ x. x ∷ β) (others n β)) (q ∷ α) α (level n (length α)) (in_level n α h.2) (in_map (λ x. x ∷ α) q (others n α) (in_others n q α h.0 h.1))

pub in_hops : (n p q : ℕ) (α : List ℕ) → p < n → IsPath n (q ∷ α) → In (record { path = α; from = q; to = p }) (hops n (length α))
in_hops n p q α l h =
    let one : ℕ → List ℕ → ℕ → Hop = λ x β y. record { path = β; from = x; to = y } in
    in_joined (λ β. flat_map (λ x. map (one x β) (range_with_len 0 n)) (others n β)) (one q α p) α (level n (length α)) (in_level n α h.2)
    (in_joined (λ x. map (one x α) (range_with_len 0 n)) (one q α p) q (others n α) (in_others n q α h.0 h.1)
    (in_map (one q α) p (range_with_len 0 n) (in_counting p 0 n (omega arith) (omega arith))))

-- a carry on a path of length r
abbrev pub At : ℕ → ℕ → Hop → Type 0
At n r h = (h.to < n) × IsPath n (h.from ∷ h.path) × (length h.path ≡ r)

pub all_hops : (n r : ℕ) → AllByRecursion (At n r) (hops n r)
all_hops n r =
    let one : ℕ → List ℕ → ℕ → Hop = λ x β y. record { path = β; from = x; to = y } in
    all_joined_at (At n r) (λ β. flat_map (λ x. map (one x β) (range_with_len 0 n)) (others n β)) (level n r) (All-weaker (λ α. IsPath n α × (length α ≡ r)) _ (λ α h. all_joined_at (At n r) (λ x. map (one x α) (range_with_len 0 n)) (others n α) (All-weaker (λ q. (q < n) × (on q α ≡ false)) _ (λ q g. All-map (At n r) (one q α) (range_with_len 0 n) (all_counting (λ p. At n r (one q α p)) 0 n (λ p u v. (omega arith, (g.0, g.1, h.0), h.1)))) (others n α) (all_others n α))) (level n r) (all_paths n r))

pub all_long : (n r : ℕ) → AllByRecursion (λ h. length h.path ≡ r) (hops n r)
all_long n r = All-weaker (At n r) _ (λ h a. a.2) (hops n r) (all_hops n r)
