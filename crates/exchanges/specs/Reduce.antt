-- What a path gets from its children.
use Rattle.std.specs.Prelude.{◌≡◌, ℕ, ◌+◌, ◌-◌, ◌*◌, ◌<◌, ◌≤◌, Bool, true, ◌⊎◌, List, [], ◌∷◌, length, Some, None, count_by, Option, ◌≢◌, nat_le, refl}
use Rattle.std.proofs.Common.{sym, ap, subst, ◌∙◌, inl, inr, arith, one-add}
use Rattle.std.proofs.lemmas.Bool.{cases_Bool, both_ways, false≢true, leb-true, leb-false, cond-true, cond-false}
use Rattle.labels.specs.Item.{Tells}
use Rattle.exchanges.specs.Trees.{holds, picked, reduce}
use Rattle.exchanges.specs.Reduction.{Held, end, holding, other, Reduces}
use Rattle.exchanges.specs.Counts.{count_yes, count_no, all_of, meet}

pub cases_option : {I : Type 0} (o : Option I) → (o ≡ None) ⊎ ((x : I) × (o ≡ Some x))
cases_option None = inl refl
cases_option (Some x) = inr (x, refl)

pub some_none : {I : Type 0} {x : I} {A : Type 0} (o : Option I) → o ≡ Some x → o ≡ None → A
some_none o e d = absurd (cc)

module _ {I : Type 0} (same : I → I → Bool) where
  -- what is picked is held often enough
  pub picked_held : (need : ℕ) (all l : List (Option I)) (x : I) → picked same need all l ≡ Some x → need ≤ count_by (holds same x) all
  picked_held need all [] x e = absurd (cc)
  picked_held need all (None ∷ l) x e = picked_held need all l x e
  picked_held need all (Some y ∷ l) x e =
      let b = nat_le need (count_by (holds same y) all) in
      elim (cases_Bool b) [ inl d ↦ (let xy : Some y ≡ Some x = sym (cond-true b (Some y) (picked same need all l) d) ∙ e in let yx : y ≡ x = cc in subst (λ (z : I). need ≤ count_by (holds same z) all) yx (leb-true _ _ d)) | inr d ↦ picked_held need all l x (sym (cond-false b (Some y) (picked same need all l) d) ∙ e) ]

  module _ (tells : Tells same) where
    pub holds_is : (x : I) (o : Option I) → holds same x o ≡ true → o ≡ Some x
    holds_is x None e = absurd (false≢true e)
    holds_is x (Some y) e = ap Some (sym (tells.equal x y e))

    pub is_holds : (x : I) (o : Option I) → o ≡ Some x → holds same x o ≡ true
    is_holds x o e = ap (holds same x) e ∙ tells.itself x

    -- where an item is held often enough, something is picked
    pub picked_some : (need : ℕ) (all l : List (Option I)) (x : I) → need ≤ count_by (holds same x) all → 1 ≤ count_by (holds same x) l → picked same need all l ≢ None
    picked_some need all [] x h g e = omega arith
    picked_some need all (None ∷ l) x h g e = picked_some need all l x h (omega (arith, count_no (holds same x) None l refl)) e
    picked_some need all (Some y ∷ l) x h g e =
        let b = nat_le need (count_by (holds same y) all) in
        elim (cases_Bool b) [ inl d ↦ (let bad : Some y ≡ None = sym (cond-true b (Some y) (picked same need all l) d) ∙ e in cc) | inr d ↦ elim (cases_Bool (same x y)) [ inl s ↦ (let few = leb-false need (count_by (holds same y) all) d in let many = subst (λ (z : I). need ≤ count_by (holds same z) all) (tells.equal x y s) h in omega arith) | inr s ↦ picked_some need all l x h (omega (arith, count_no (holds same x) (Some y) l s)) (sym (cond-false b (Some y) (picked same need all l) d) ∙ e) ] ]

    held_count : (x : I) (m : ℕ) (l : List (Option I)) → Held x m l → count_by (holds same x) l ≡ m
    held_count x m [] end = refl
    held_count x m (Some y ∷ l) (holding h) = omega (arith, count_yes (holds same x) (Some x) l (tells.itself x), held_count x _ l h)
    held_count x m (o ∷ l) (other o' ne h) =
        elim (cases_Bool (holds same x o)) [ inl e ↦ absurd (ne (holds_is x o e)) | inr e ↦ count_no (holds same x) o l e ∙ held_count x m l h ]

    count_held : (x : I) (l : List (Option I)) → Held x (count_by (holds same x) l) l
    count_held x [] = end
    count_held x (o ∷ l) =
        elim (cases_Bool (holds same x o)) [ inl e ↦ subst (λ (v : Option I). Held x (count_by (holds same x) (v ∷ l)) (v ∷ l)) (sym (holds_is x o e)) (subst (λ (m : ℕ). Held x m (Some x ∷ l)) (sym (count_yes (holds same x) (Some x) l (tells.itself x) ∙ one-add (count_by (holds same x) l))) (holding (count_held x l))) | inr e ↦ subst (λ (m : ℕ). Held x m (o ∷ l)) (sym (count_no (holds same x) o l e)) (other o (λ d. absurd (both_ways (holds same x o) e (is_holds x o d))) (count_held x l)) ]

    -- two items that are held so often are one
    often_one : (need : ℕ) (l : List (Option I)) (x y : I) → length l < need + need → need ≤ count_by (holds same x) l → need ≤ count_by (holds same y) l → x ≡ y
    often_one need l x y long h g =
        let (o, p, a, b) = meet (holds same x) (holds same y) (λ o. Unit {0}) l (all_of (λ o. Unit {0}) (λ o. tt) l) (omega arith) in
        let e : Some x ≡ Some y = sym (holds_is x o a) ∙ holds_is y o b in
        cc

    pub reduces : (n t k : ℕ) → 3 * t < n → k ≤ t → (children : List (Option I)) → length children ≡ n - k → Reduces n t k children (reduce same n t k children)
    reduces n t k room low children long = record {
      enough = λ x m h l. elim (cases_option (reduce same n t k children)) [ inl e ↦ absurd (picked_some (n - k - t) children children x (omega (arith, held_count x m children h)) (omega (arith, held_count x m children h)) e) | inr w ↦ w.1 ∙ ap Some (often_one (n - k - t) children w.0 x (omega arith) (picked_held (n - k - t) children children w.0 w.1) (omega (arith, held_count x m children h))) ];
      too_few = λ few. elim (cases_option (reduce same n t k children)) [ inl e ↦ e | inr w ↦ absurd (omega (arith, picked_held (n - k - t) children children w.0 w.1, few w.0 _ (count_held w.0 children))) ];
    }
