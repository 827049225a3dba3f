-- The slots that the carries fill hold the trees that the rounds fill.
use Rattle.std.proofs.Common.{◌≡◌, ℕ, suc, ◌+◌, ◌-◌, ◌*◌, ◌/◌, ◌%◌, ◌<◌, ◌≤◌, List, [], ◌∷◌, length, get_or, drop, set, None, fold, Option, sym, ap, ◌∙◌, subst, inl, inr, arith, length-set}
use Rattle.std.specs.List.{AllByRecursion}
use Rattle.std.proofs.lemmas.List.{get_or-set_same, get_or-set_other, drop-set-lt}
use Rattle.std.proofs.lemmas.Nat.{div-mul-add, mod-mul-add}
use Rattle.std.proofs.lemmas.Bool.{cases_eq, cases_order}
use Rattle.exchanges.specs.Plane.{Plane, carry, after}
use Rattle.exchanges.specs.Trees.{IsPath, Trees, put, Hop, Run, hop, place, start, tree_size, OwnPlaces}
use Rattle.exchanges.specs.Slots.{slot, held, Work, carried, Stands}
use Rattle.exchanges.specs.Ranks.{rank_below, rank_once}
use Rattle.exchanges.specs.Members.{At}
use Rattle.exchanges.specs.Fill.{put_same, put_cases, put_shorter}
use Rattle.exchanges.proofs.Slots.{place_below, slot_below, start_mono}

-- a shorter path stands before a longer one
place_before : (n : ℕ) (α β : List ℕ) → IsPath n α → 1 ≤ length α → length α < length β → place n α < place n β
place_before n [] β h one l = absurd (omega arith)
place_before n (q ∷ α) β h one l =
    let e : suc (suc (length α)) + (length β - suc (suc (length α))) ≡ length β = omega arith in
    omega (arith, rank_below n (q ∷ α) h, start_mono n (suc (suc (length α))) (length β - suc (suc (length α))), ap (start n) e)

place_once : (n : ℕ) (α β : List ℕ) → IsPath n α → IsPath n β → 1 ≤ length α → 1 ≤ length β → place n α ≡ place n β → α ≡ β
place_once n α β h g one two e =
    elim (cases_order (length α) (length β)) [ inl l ↦ rank_once n α β h g l (omega (arith, ap (start n) l)) | inr o ↦ elim o [ inl l ↦ absurd (omega (arith, place_before n α β h one l)) | inr l ↦ absurd (omega (arith, place_before n β α g two l)) ] ]

pub own_places : OwnPlaces
own_places n t α β a b = record {
  within = place_below n t α a.path a.some a.short;
  apart = place_once n α β a.path b.path a.some b.some;
}

-- the slots filled so far hold the trees filled so far, over the same backplane, and lie before the rest
pub record Agrees {I : Type 0} (n t size : ℕ) (own rest : List (Option I)) (w : Work I) (r : Run I) : Type 0 where
  pub planes : w.plane ≡ r.plane
  pub stands : Stands n t size own w.slots r.trees
  pub roomy : n * size ≤ length w.slots
  pub beyond : drop (n * size) w.slots ≡ rest

module _ (n t size : ℕ) (sized : size ≡ tree_size n t) where
  slot_once : (p p' : ℕ) (α β : List ℕ) → IsPath n α → IsPath n β → 1 ≤ length α → 1 ≤ length β → length α ≤ t + 1 → length β ≤ t + 1 → slot n size p α ≡ slot n size p' β → (p ≡ p') × (α ≡ β)
  slot_once p p' α β h g one two l m e =
      let below : place n α < size = omega (arith, place_below n t α h one l) in
      let below' : place n β < size = omega (arith, place_below n t β g two m) in
      (sym (div-mul-add p size (place n α) below) ∙ ap (λ (x : ℕ). x / size) e ∙ div-mul-add p' size (place n β) below', place_once n α β h g one two (sym (mod-mul-add p size (place n α) below) ∙ ap (λ (x : ℕ). x % size) e ∙ mod-mul-add p' size (place n β) below'))

  module _ {I : Type 0} (own : List (Option I)) where
    pub stands_put : (ws : List (Option I)) (T : Trees I) (p q : ℕ) (α : List ℕ) (v : Option I) → Stands n t size own ws T → n * size ≤ length ws → p < n → IsPath n (q ∷ α) → length α ≤ t → Stands n t size own (set ws (slot n size p (q ∷ α)) v) (put T p (q ∷ α) v)
    stands_put ws T p q α v s room lp path short = record {
      sends = λ x l. put_shorter T p x (q ∷ α) [] v (omega arith) ∙ s.sends x l;
      holds = λ p' β lp' g two m. elim (cases_eq (slot n size p' β) (slot n size p (q ∷ α))) [ inl e ↦ (let (ep, eα) = slot_once p' p β (q ∷ α) g path two (omega arith) m (omega arith) e in let inside = slot_below n t size p (q ∷ α) sized lp path (omega arith) (omega arith) in ap (λ (i : ℕ). get_or (set ws (slot n size p (q ∷ α)) v) i None) e ∙ get_or-set_same ws (slot n size p (q ∷ α)) v None (omega arith) ∙ sym (ap (λ (x : ℕ). put T p (q ∷ α) v x β) ep ∙ ap (put T p (q ∷ α) v p) eα ∙ put_same T p (q ∷ α) v)) | inr d ↦ get_or-set_other ws (slot n size p (q ∷ α)) (slot n size p' β) v None d ∙ s.holds p' β lp' g two m ∙ sym (elim (put_cases T p p' (q ∷ α) β v) [ inl k ↦ absurd (d (ap (λ (x : ℕ). slot n size x β) k.0 ∙ ap (slot n size p) k.1)) | inr k ↦ k ]) ];
    }

    held_is : (ws : List (Option I)) (T : Trees I) (q : ℕ) (α : List ℕ) → Stands n t size own ws T → q < n → IsPath n α → length α ≤ t + 1 → held n size own ws q α ≡ T q α
    held_is ws T q [] s l path m = sym (s.sends q l)
    held_is ws T q (a ∷ α) s l path m = s.holds q (a ∷ α) l path (omega arith) m

    module _ (rest : List (Option I)) (m : ℕ) (short : m ≤ t) where
      step_agrees : (w : Work I) (r : Run I) (h : Hop) → Agrees n t size own rest w r → At n m h → Agrees n t size own rest (carried n size own w h) (hop r h)
      step_agrees w r h a k =
          let x : held n size own w.slots h.from h.path ≡ r.trees h.from h.path = held_is w.slots r.trees h.from h.path a.stands k.1.0 k.1.2 (omega (arith, k.2)) in
          let v : w.plane.answer [] h.from h.to (held n size own w.slots h.from h.path) ≡ r.plane.answer [] h.from h.to (r.trees h.from h.path) = ap (λ (b : Plane I). b.answer [] h.from h.to (held n size own w.slots h.from h.path)) a.planes ∙ ap (r.plane.answer [] h.from h.to) x in
          let got = w.plane.answer [] h.from h.to (held n size own w.slots h.from h.path) in
          record {
            planes = ap (λ (b : Plane I). after b (carry h.from h.to (held n size own w.slots h.from h.path))) a.planes ∙ ap (λ (y : Option I). after r.plane (carry h.from h.to y)) x;
            stands = subst (λ (y : Option I). Stands n t size own (carried n size own w h).slots (put r.trees h.to (h.from ∷ h.path) y)) v (stands_put w.slots r.trees h.to h.from h.path _ a.stands a.roomy k.0 k.1 (omega (arith, k.2)));
            roomy = omega (arith, a.roomy, length-set w.slots (slot n size h.to (h.from ∷ h.path)) got);
            beyond = drop-set-lt (n * size) w.slots (slot n size h.to (h.from ∷ h.path)) got (slot_below n t size h.to (h.from ∷ h.path) sized k.0 k.1 (omega arith) (omega (arith, k.2))) ∙ a.beyond;
          }

      pub fold_agrees : (w : Work I) (r : Run I) (hs : List Hop) → Agrees n t size own rest w r → AllByRecursion (At n m) hs → Agrees n t size own rest (fold (carried n size own) w hs) (fold hop r hs)
      fold_agrees w r [] a k = a
      fold_agrees w r (h ∷ hs) a k = fold_agrees (carried n size own w h) (hop r h) hs (step_agrees w r h a k.0) k.1
