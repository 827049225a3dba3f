-- The theorem of the tree exchange, over any family of trees in which each slot of a sound sender's path holds what that sender's own tree holds, or silence.
use Rattle.std.specs.Prelude.{◌≡◌, ℕ, zero, suc, ◌+◌, ◌-◌, ◌*◌, ◌<◌, ◌≤◌, Bool, true, false, not, ◌⊎◌, List, ◌∷◌, map, length, Some, None, count_by, Option, ◌≢◌}
use Rattle.std.proofs.Common.{sym, ap, ◌∙◌, inl, inr, arith}
use Rattle.std.specs.List.{range_with_len, AllByRecursion}
use Rattle.std.proofs.lemmas.Bool.{cases_Bool, not-true}
use Rattle.std.proofs.ByRecursion.{All-weaker}
use Rattle.labels.specs.Item.{Tells}
use Rattle.exchanges.specs.Trees.{IsPath, Trees, holds, reduce, reduced, on, others}
use Rattle.exchanges.specs.Counts.{count_le, count_not, count_kept, count_map, map_same, meet, length_others, all_others, path_short}
use Rattle.exchanges.specs.Reduce.{cases_option, some_none, picked_held, holds_is, is_holds, picked_some}

-- what p's tree holds at the path α with a sound q added is what q's tree holds at α, or silence
abbrev pub Lossy : {I : Type 0} → ℕ → ℕ → (ℕ → Bool) → Trees I → Type 0
Lossy n t bad T = (p q : ℕ) (α : List ℕ) → p < n → IsPath n (q ∷ α) → length α ≤ t → bad q ≡ false → (T p (q ∷ α) ≡ T q α) ⊎ (T p (q ∷ α) ≡ None)

-- and, between sound boards, it is not silence
abbrev pub Lossless : {I : Type 0} → ℕ → ℕ → (ℕ → Bool) → Trees I → Type 0
Lossless n t bad T = (p q : ℕ) (α : List ℕ) → p < n → bad p ≡ false → IsPath n (q ∷ α) → length α ≤ t → bad q ≡ false → T p (q ∷ α) ≡ T q α

-- One path β of length at most t, with what its children hold.
module _ {I : Type 0} (same : I → I → Bool) (tells : Tells same) (n t : ℕ) (bad : ℕ → Bool) (room : 3 * t < n) (few : count_by bad (range_with_len 0 n) ≤ t) (β : List ℕ) (path : IsPath n β) (short : length β ≤ t) where
  -- of the children, at most t are bad
  few_bad : count_by bad (others n β) ≤ t
  few_bad = omega (arith, count_kept bad (λ q. not (on q β)) (range_with_len 0 n))

  -- an item that the path gets is held by a sound child
  pub sound_child : (v : ℕ → Option I) (x : I) → reduce same n t (length β) (map v (others n β)) ≡ Some x → (c : ℕ) × ((c < n) × (on c β ≡ false)) × (v c ≡ Some x) × (bad c ≡ false)
  sound_child v x e =
      let held = picked_held same (n - length β - t) (map v (others n β)) (map v (others n β)) x e in
      let back = count_map (holds same x) v (others n β) in
      let size = length_others n β path in
      let parts = count_not bad (others n β) in
      let bads = few_bad in
      let (c, inside, holding, sound) = meet (λ c. holds same x (v c)) (λ c. not (bad c)) (λ c. (c < n) × (on c β ≡ false)) (others n β) (all_others n β) (omega arith) in
      (c, inside, holds_is same tells x (v c) holding, not-true (bad c) sound)

  -- an item that every sound child holds is enough
  pub all_enough : (v : ℕ → Option I) (x : I) → ((c : ℕ) → (c < n) × (on c β ≡ false) → bad c ≡ false → v c ≡ Some x) → reduce same n t (length β) (map v (others n β)) ≢ None
  all_enough v x f e =
      let back = count_map (holds same x) v (others n β) in
      let size = length_others n β path in
      let parts = count_not bad (others n β) in
      let bads = few_bad in
      let more = count_le (λ c. not (bad c)) (λ c. holds same x (v c)) (others n β) (All-weaker (λ c. (c < n) × (on c β ≡ false)) _ (λ c h s. is_holds same tells x (v c) (f c h (not-true (bad c) s))) (others n β) (all_others n β)) in
      picked_some same tells (n - length β - t) (map v (others n β)) (map v (others n β)) x (omega arith) (omega arith) e

module _ {I : Type 0} (same : I → I → Bool) (tells : Tells same) (n t : ℕ) (bad : ℕ → Bool) (room : 3 * t < n) (few : count_by bad (range_with_len 0 n) ≤ t) (T : Trees I) (lossy : Lossy n t bad T) where
  abbrev val : ℕ → ℕ → List ℕ → Option I
  val h p α = reduced same n t T h p α

  -- a sound board's path keeps its item, or falls silent
  pub sound_kept : (h p q : ℕ) (α : List ℕ) → p < n → IsPath n (q ∷ α) → length α + h ≡ t → bad q ≡ false → (val h p (q ∷ α) ≡ T q α) ⊎ (val h p (q ∷ α) ≡ None)
  sound_kept zero p q α lp path len sound = lossy p q α lp path (omega arith) sound
  sound_kept (suc h) p q α lp path len sound =
      elim (cases_option (val (suc h) p (q ∷ α))) [ inl e ↦ inr e | inr w ↦ (let (c, inside, holding, good) = sound_child same tells n t bad room few (q ∷ α) path (omega arith) (λ c. val h p (c ∷ q ∷ α)) w.0 w.1 in let step = lossy c q α inside.0 path (omega arith) sound in elim (sound_kept h p c (q ∷ α) lp (inside.0, inside.1, path) (omega arith) good) [ inl d ↦ elim step [ inl s ↦ inl (cc (w.1, holding, d, s)) | inr s ↦ some_none (val h p (c ∷ q ∷ α)) holding (d ∙ s) ] | inr d ↦ some_none (val h p (c ∷ q ∷ α)) holding d ]) ]

  module _ (lossless : Lossless n t bad T) where
    -- in a steady exchange a sound board's path keeps its item at every sound board
    pub sound_told : (h p q : ℕ) (α : List ℕ) → p < n → bad p ≡ false → IsPath n (q ∷ α) → length α + h ≡ t → bad q ≡ false → val h p (q ∷ α) ≡ T q α
    sound_told zero p q α lp sp path len sound = lossless p q α lp sp path (omega arith) sound
    sound_told (suc h) p q α lp sp path len sound =
        elim (sound_kept (suc h) p q α lp path len sound) [ inl e ↦ e | inr e ↦ elim (cases_option (T q α)) [ inl d ↦ e ∙ sym d | inr w ↦ absurd (all_enough same tells n t bad room few (q ∷ α) path (omega arith) (λ c. val h p (c ∷ q ∷ α)) w.0 (λ c inside s. sound_told h p c (q ∷ α) lp sp (inside.0, inside.1, path) (omega arith) s ∙ lossless c q α inside.0 s path (omega arith) sound ∙ w.1) e) ] ]

    -- in a steady exchange every path of bad boards is common to all sound boards
    pub bad_common : (h p p' : ℕ) (α : List ℕ) → p < n → bad p ≡ false → p' < n → bad p' ≡ false → IsPath n α → AllByRecursion (λ q. bad q ≡ true) α → length α + h ≡ t + 1 → val h p α ≡ val h p' α
    bad_common zero p p' α lp sp lp' sp' path bads len = absurd (omega (arith, path_short bad n α path bads))
    bad_common (suc h) p p' α lp sp lp' sp' path bads len =
        ap (reduce same n t (length α)) (map_same (λ c. val h p (c ∷ α)) (λ c. val h p' (c ∷ α)) (others n α) (All-weaker (λ c. (c < n) × (on c α ≡ false)) _ (λ c inside. elim (cases_Bool (bad c)) [ inl b ↦ bad_common h p p' (c ∷ α) lp sp lp' sp' (inside.0, inside.1, path) (b, bads) (omega arith) | inr s ↦ sound_told h p c α lp sp (inside.0, inside.1, path) (omega arith) s ∙ sym (sound_told h p' c α lp' sp' (inside.0, inside.1, path) (omega arith) s) ]) (others n α) (all_others n α)))
