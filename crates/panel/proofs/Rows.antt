-- What a board's choice and its counts tell of the rows that it heard.
use Rattle.std.proofs.Common.{◌≡◌, ℕ, zero, suc, ◌<◌, ◌≤◌, Bool, true, false, cond, ◌&&◌, eqb, ltb, ◌⊎◌, Some, None, sym, refl, ap, ◌∙◌, subst, inl, inr, arith}
use Rattle.std.proofs.lemmas.Bool.{and_parts, and_from, or_cases, or_parts, or_left, or_right, eqb-true, eq-eqb, ltb-true, ltb-false, lt-ltb, true≢false, cases_eq}
use Rattle.panel.specs.Slots.{Slot}
use Rattle.labels.specs.declared.slip.Slip.{Slip}
use Rattle.panel.specs.Phase.{Row, ahead, better, best}
use Rattle.panel.proofs.Slips.{Strict, none≢some, some_inj}

module _ {L : Type 0} (beats : Slip L → Slip L → Bool) (row : Row L) where
  pub best_from : (n : ℕ) (s : Slip L) → best beats row n ≡ Some s → (q : ℕ) × (q < n) × (row q ≡ Some s)
  best_from zero s e = absurd (none≢some s e)
  best_from (suc n) s e = go (row n) (best beats row n) refl e (best_from n s)
    where
      on : (q : ℕ) × (q < n) × (row q ≡ Some s) → (q : ℕ) × (q < suc n) × (row q ≡ Some s)
      on r = let l : r.0 < n = r.1 in (r.0, omega arith, r.2)

      two : (a b : Slip L) (t : Bool) → row n ≡ Some a → cond t (Some a) (Some b) ≡ Some s → (Some b ≡ Some s → (q : ℕ) × (q < n) × (row q ≡ Some s)) → (q : ℕ) × (q < suc n) × (row q ≡ Some s)
      two a b true k h ih = (n, omega arith, k ∙ h)
      two a b false k h ih = on (ih h)

      go : (a b : Slot L) → row n ≡ a → better beats a b ≡ Some s → (b ≡ Some s → (q : ℕ) × (q < n) × (row q ≡ Some s)) → (q : ℕ) × (q < suc n) × (row q ≡ Some s)
      go None b k h ih = on (ih h)
      go (Some a) None k h ih = (n, omega arith, k ∙ h)
      go (Some a) (Some b) k h ih = two a b (beats a b) k h ih

  better_some : (a b : Slot L) → ((s : Slip L) × (a ≡ Some s)) ⊎ ((s : Slip L) × (b ≡ Some s)) → (r : Slip L) × (better beats a b ≡ Some r)
  better_some None None (inl p) = absurd (none≢some p.0 p.1)
  better_some None None (inr p) = absurd (none≢some p.0 p.1)
  better_some None (Some b) h = (b, refl)
  better_some (Some a) None h = (a, refl)
  better_some (Some a) (Some b) h = go (beats a b)
    where
      go : (t : Bool) → (r : Slip L) × (cond t (Some a) (Some b) ≡ Some r)
      go true = (a, refl)
      go false = (b, refl)

  pub best_some : (n q : ℕ) (s : Slip L) → q < n → row q ≡ Some s → (r : Slip L) × (best beats row n ≡ Some r)
  best_some zero q s l e = absurd (omega arith)
  best_some (suc n) q s l e = better_some (row n) (best beats row n) (go (cases_eq q n) (λ k. best_some n q s k e))
    where
      go : (q ≡ n) ⊎ (q ≡ n → ⊥) → (q < n → (r : Slip L) × (best beats row n ≡ Some r)) → ((s : Slip L) × (row n ≡ Some s)) ⊎ ((s : Slip L) × (best beats row n ≡ Some s))
      go (inl k) ih = inl (s, ap row (sym k) ∙ e)
      go (inr k) ih = inr (ih (omega arith))

  module _ (M : Slip L → ℕ) (up : (s r : Slip L) → beats s r ≡ true → M r ≤ M s) (down : (s r : Slip L) → beats s r ≡ false → M s ≤ M r) where
    pub best_most : (n : ℕ) (r : Slip L) → best beats row n ≡ Some r → (q : ℕ) (s : Slip L) → q < n → row q ≡ Some s → M s ≤ M r
    best_most zero r e q s l k = absurd (omega arith)
    best_most (suc n) r e q s l k = go (row n) (best beats row n) refl e (cases_eq q n) (λ r' e' l'. best_most n r' e' q s l' k) (λ l'. best_some n q s l' k)
      where
        two : (a b : Slip L) (t : Bool) → beats a b ≡ t → cond t (Some a) (Some b) ≡ Some r → (M a ≤ M r) × (M b ≤ M r)
        two a b true k' h = let d = up a b k' in let z : M a ≡ M r = ap M (some_inj a r h) in (omega arith, omega arith)
        two a b false k' h = let d = down a b k' in let z : M b ≡ M r = ap M (some_inj b r h) in (omega arith, omega arith)

        go : (a b : Slot L) → row n ≡ a → better beats a b ≡ Some r → (q ≡ n) ⊎ (q ≡ n → ⊥) → ((r' : Slip L) → b ≡ Some r' → q < n → M s ≤ M r') → (q < n → (r' : Slip L) × (b ≡ Some r')) → M s ≤ M r
        go None b ka h (inl c) ih is = absurd (none≢some s (sym ka ∙ (ap row (sym c) ∙ k)))
        go None b ka h (inr c) ih is = ih r h (omega arith)
        go (Some a) None ka h (inl c) ih is = let z : M a ≡ M s = ap M (some_inj a s (sym ka ∙ (ap row (sym c) ∙ k))) in let y : M a ≡ M r = ap M (some_inj a r h) in omega arith
        go (Some a) None ka h (inr c) ih is = let p = is (omega arith) in absurd (none≢some p.0 p.1)
        go (Some a) (Some b) ka h (inl c) ih is = let z : M a ≡ M s = ap M (some_inj a s (sym ka ∙ (ap row (sym c) ∙ k))) in let y = two a b (beats a b) refl h in omega arith
        go (Some a) (Some b) ka h (inr c) ih is = let z : M s ≤ M b = ih b refl (omega arith) in let y = two a b (beats a b) refl h in omega arith

pub best_same : {L : Type 0} (beats beats' : Slip L → Slip L → Bool) (row row' : Row L) (n : ℕ) → ((s r : Slip L) → beats s r ≡ beats' s r) → ((q : ℕ) → q < n → row q ≡ row' q) → best beats row n ≡ best beats' row' n
best_same beats beats' row row' zero hb h = refl
best_same beats beats' row row' (suc n) hb h = ap (λ u. better beats u (best beats row n)) (h n (omega arith)) ∙ (ap (better beats (row' n)) (best_same beats beats' row row' n hb (λ q l. h q (omega arith))) ∙ go (row' n) (best beats' row' n))
  where
    go : (a b : Slot _) → better beats a b ≡ better beats' a b
    go None b = refl
    go (Some a) None = refl
    go (Some a) (Some b) = ap (λ t. cond t (Some a) (Some b)) (hb a b)

-- what `ahead` tells
module _ {L : Type 0} {wins : L → L → Bool} (W : Strict wins) (M : Slip L → ℕ) where
  abbrev pub Ahead : Slip L → Slip L → Type 0
  Ahead s r = (M r < M s) ⊎ ((M r ≡ M s) × (wins s.label r.label ≡ true))

  pub ahead_true : (s r : Slip L) → ahead wins M s r ≡ true → Ahead s r
  ahead_true s r h = go (or_cases (ltb (M r) (M s)) (eqb (M r) (M s) && wins s.label r.label) h)
    where
      go : (ltb (M r) (M s) ≡ true) ⊎ ((eqb (M r) (M s) && wins s.label r.label) ≡ true) → Ahead s r
      go (inl k) = inl (ltb-true _ _ k)
      go (inr k) = let p = and_parts (eqb (M r) (M s)) (wins s.label r.label) k in inr (eqb-true _ _ p.0, p.1)

  pub ahead_made : (s r : Slip L) → Ahead s r → ahead wins M s r ≡ true
  ahead_made s r (inl k) = or_left (ltb (M r) (M s)) (eqb (M r) (M s) && wins s.label r.label) (lt-ltb _ _ k)
  ahead_made s r (inr k) = or_right (ltb (M r) (M s)) (eqb (M r) (M s) && wins s.label r.label) (and_from (eqb (M r) (M s)) (wins s.label r.label) (eq-eqb _ _ k.0) k.1)

  pub ahead_up : (s r : Slip L) → ahead wins M s r ≡ true → M r ≤ M s
  ahead_up s r h = go (ahead_true s r h)
    where
      go : Ahead s r → M r ≤ M s
      go (inl k) = omega arith
      go (inr k) = let e = k.0 in omega arith

  pub ahead_down : (s r : Slip L) → ahead wins M s r ≡ false → M s ≤ M r
  ahead_down s r h = ltb-false _ _ (or_parts (ltb (M r) (M s)) (eqb (M r) (M s) && wins s.label r.label) h).0

  ahead_trans : (a b c : Slip L) → ahead wins M a b ≡ true → ahead wins M b c ≡ true → ahead wins M a c ≡ true
  ahead_trans a b c h k = ahead_made a c (go (ahead_true a b h) (ahead_true b c k))
    where
      go : Ahead a b → Ahead b c → Ahead a c
      go (inl x) (inl y) = inl (omega arith)
      go (inl x) (inr y) = let e = y.0 in inl (omega arith)
      go (inr x) (inl y) = let e = x.0 in inl (omega arith)
      go (inr x) (inr y) = let e = x.0 in let d = y.0 in inr (omega arith, W.transitive a.label b.label c.label x.1 y.1)

  ahead_irrefl : (a : Slip L) → ahead wins M a a ≡ true → ⊥
  ahead_irrefl a h = go (ahead_true a a h)
    where
      go : Ahead a a → ⊥
      go (inl x) = omega arith
      go (inr x) = true≢false (sym x.1 ∙ W.irreflexive a.label)

  -- none is ahead of the best
  pub best_top : (row : Row L) (n : ℕ) (s : Slip L) → best (ahead wins M) row n ≡ Some s → (q : ℕ) (r : Slip L) → q < n → row q ≡ Some r → ahead wins M r s ≡ true → ⊥
  best_top row zero s e q r l k a = omega arith
  best_top row (suc n) s e q r l k a = go (row n) (best (ahead wins M) row n) refl refl e (cases_eq q n) (λ s' e' l' a'. best_top row n s' e' q r l' k a')
    where
      at_n : (x : Slot L) → row n ≡ x → q ≡ n → x ≡ Some r
      at_n x kx c = sym kx ∙ (ap row (sym c) ∙ k)

      two : (x y : Slip L) (t : Bool) → ahead wins M x y ≡ t → cond t (Some x) (Some y) ≡ Some s → (q ≡ n) ⊎ (q ≡ n → ⊥) → row n ≡ Some x → (q < n → ahead wins M r y ≡ true → ⊥) → ⊥
      two x y true h z (inl c) kx ih = ahead_irrefl s (subst (λ u. ahead wins M u s ≡ true) (sym (some_inj x r (at_n (Some x) kx c)) ∙ some_inj x s z) a)
      two x y true h z (inr c) kx ih = ih (omega arith) (ahead_trans r x y (subst (λ u. ahead wins M r u ≡ true) (sym (some_inj x s z)) a) h)
      two x y false h z (inl c) kx ih = true≢false (sym (subst (λ u. ahead wins M u y ≡ true) (sym (some_inj x r (at_n (Some x) kx c))) (subst (λ u. ahead wins M r u ≡ true) (sym (some_inj y s z)) a)) ∙ h)
      two x y false h z (inr c) kx ih = ih (omega arith) (subst (λ u. ahead wins M r u ≡ true) (sym (some_inj y s z)) a)

      go : (x y : Slot L) → row n ≡ x → best (ahead wins M) row n ≡ y → better (ahead wins M) x y ≡ Some s → (q ≡ n) ⊎ (q ≡ n → ⊥) → ((s' : Slip L) → best (ahead wins M) row n ≡ Some s' → q < n → ahead wins M r s' ≡ true → ⊥) → ⊥
      go None y kx ky h (inl c) ih = none≢some r (at_n None kx c)
      go None y kx ky h (inr c) ih = ih s (ky ∙ h) (omega arith) a
      go (Some x) None kx ky h (inl c) ih = ahead_irrefl s (subst (λ u. ahead wins M u s ≡ true) (sym (some_inj x r (at_n (Some x) kx c)) ∙ some_inj x s h) a)
      go (Some x) None kx ky h (inr c) ih = let p = best_some (ahead wins M) row n q r (omega arith) k in none≢some p.0 (sym ky ∙ p.1)
      go (Some x) (Some y) kx ky h c ih = two x y (ahead wins M x y) refl h c kx (λ l' a'. ih y ky l' a')

  -- level slips of which neither label is smaller
  pub level_same : (s r : Slip L) → ahead wins M s r ≡ false → ahead wins M r s ≡ false → s.label ≡ r.label
  level_same s r h k =
      let a = or_parts (ltb (M r) (M s)) (eqb (M r) (M s) && wins s.label r.label) h in
      let b = or_parts (ltb (M s) (M r)) (eqb (M s) (M r) && wins r.label s.label) k in
      let x = ltb-false _ _ a.0 in
      let y = ltb-false _ _ b.0 in
      let e : M r ≡ M s = omega arith in
      W.total s.label r.label (sym (ap (λ u. u && wins s.label r.label) (eq-eqb _ _ e)) ∙ a.1) (sym (ap (λ u. u && wins r.label s.label) (eq-eqb _ _ (sym e))) ∙ b.1)
