-- Steps of the loops.
use Rattle.std.proofs.Common.{◌≡◌, ℕ, ◌+◌, ◌*◌, ◌<◌, ◌≤◌, Bool, List, ◌++◌, map, length, get_or, take, drop, set, sym, ap, ◌∙◌, append-nil, add-one}
use Rattle.std.proofs.lemmas.List.{drop_all, take_all}
use Rattle.std.proofs.lemmas.List.Edits.{map_over_more}
use Rattle.labels.specs.declared.slip.Slip.{Slip}
use Rattle.panel.specs.Slots.{Slot}
use Rattle.panel.specs.Phase.{Row, better, best}
use Rattle.panel.specs.Panel.{put}

-- how far the search for the best has come
pub best_more : {L : Type 0} (beats : Slip L → Slip L → Bool) (row : Row L) (i : ℕ) (b b' a : Slot L) → b ≡ best beats row i → a ≡ row i → b' ≡ better beats a b → b' ≡ best beats row (i + 1)
best_more beats row i b b' a was here step =
    step ∙ (ap (λ u. better beats u b) here ∙ (ap (better beats (row i)) was ∙ ap (best beats row) (sym (add-one i))))

-- how far the slots of the boards are replaced
pub put_more : {L : Type 0} (k : ℕ) (c : ℕ → Slot L) (slots : List (Slot L)) (i : ℕ) (now next : List (Slot L)) (new : Slot L) → now ≡ put k c slots i → new ≡ c i → next ≡ set now (10 * i + k) new → next ≡ put k c slots (i + 1)
put_more k c slots i now next new was here step =
    step ∙ (ap (set now (10 * i + k)) here ∙ (ap (λ u. set u (10 * i + k) (c i)) was ∙ ap (put k c slots) (sym (add-one i))))

-- how far a map in place has come
module _ {X : Type 0} (f : X → X) (xs : List X) where
  pub mapping_more : (ys : List X) (i : ℕ) (x y : X) → ys ≡ map f (take i xs) ++ drop i xs → i < length xs → x ≡ get_or ys i x → y ≡ f (get_or ys i x) → set ys i y ≡ map f (take (i + 1) xs) ++ drop (i + 1) xs
  mapping_more ys i x y was within read step = ap (set ys i) (step ∙ ap f (sym read)) ∙ map_over_more f xs ys i x within was read

  pub mapping_all : (ys : List X) (i : ℕ) → ys ≡ map f (take i xs) ++ drop i xs → length xs ≤ i → ys ≡ map f xs
  mapping_all ys i was over = was ∙ ap (λ l. map f (take i xs) ++ l) (drop_all i xs over) ∙ append-nil (map f (take i xs)) ∙ ap (map f) (take_all i xs over)
