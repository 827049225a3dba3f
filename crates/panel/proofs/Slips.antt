-- Labels, slips and slots: what the tests on them tell.
use Rattle.std.proofs.Common.{◌≡◌, ℕ, ◌<◌, Bool, true, false, cond, eqb, ltb, ◌⊎◌, Some, None, Option, Ordering, Less, Equal, Greater, sym, refl, ap, ◌∙◌, subst, inl, inr}
use Rattle.std.proofs.lemmas.Bool.{or_cases, lt-ltb, and_parts, and_from, eqb-true, eq-eqb, ltb-true, false≢true, cond-true}
use Rattle.std.specs.Ordering.{is_eq, is_lt, ordering_reverse}
use Rattle.labels.specs.Order.{Total}
use Rattle.panel.specs.Slots.{Comparison, same, smaller, Slot, has_label, is_slip, with_phase, label_of}
use Rattle.labels.specs.declared.slip.Slip.{Slip}
use Rattle.panel.specs.Phase.{as_claim, as_pick, supports, unphased, only}

abbrev pub slip : {L : Type 0} → L → ℕ → Slip L
slip v c = record { label = v; phase = c }

abbrev is_none : {A : Type 0} → Option A → Bool
is_none None = true
is_none (Some a) = false

pub none≢some : {A : Type 0} (a : A) → ◌≡◌ {A = Option A} None (Some a) → ⊥
none≢some a e = false≢true (sym (ap is_none e))

pub some_inj : {A : Type 0} (a b : A) → ◌≡◌ {A = Option A} (Some a) (Some b) → a ≡ b
some_inj a b e = cc

pub slip_path : {L : Type 0} (s : Slip L) (v : L) (c : ℕ) → s.label ≡ v → s.phase ≡ c → s ≡ slip v c
slip_path s v c e k = λ i. record { label = e i; phase = k i }

-- a strict total order
pub record Strict {L : Type 0} (less : L → L → Bool) : Type 0 where
  pub irreflexive : (a : L) → less a a ≡ false
  pub transitive : (a b c : L) → less a b ≡ true → less b c ≡ true → less a c ≡ true
  pub total : (a b : L) → less a b ≡ false → less b a ≡ false → a ≡ b

lt_less : (k : Ordering) → is_lt k ≡ true → k ≡ Less
lt_less Less h = refl
lt_less Equal h = absurd (false≢true h)
lt_less Greater h = absurd (false≢true h)

eq_equal : (k : Ordering) → is_eq k ≡ true → k ≡ Equal
eq_equal Less h = absurd (false≢true h)
eq_equal Equal h = refl
eq_equal Greater h = absurd (false≢true h)

neither : (k : Ordering) → is_lt k ≡ false → is_lt (ordering_reverse k) ≡ false → k ≡ Equal
neither Less h r = absurd (false≢true (sym h))
neither Equal h r = refl
neither Greater h r = absurd (false≢true (sym r))

module _ {L : Type 0} {o : Comparison L} (T : Total o) where
  pub smaller_strict : Strict (smaller o)
  smaller_strict = record {
    irreflexive = λ a. ap is_lt (T.itself a);
    transitive = λ a b c h k. ap is_lt (T.through a b c (lt_less (o a b) h) (lt_less (o b c) k));
    total = λ a b h k. T.same a b (neither (o a b) h (sym (ap is_lt (T.turned a b)) ∙ k));
  }

  pub same_true : (a b : L) → same o a b ≡ true → a ≡ b
  same_true a b h = T.same a b (eq_equal (o a b) h)

  pub same_refl : (a : L) → same o a a ≡ true
  same_refl a = ap is_eq (T.itself a)

  pub is_true : (v : L) (c : ℕ) (x : Slot L) → is_slip o v c x ≡ true → x ≡ Some (slip v c)
  is_true v c None h = absurd (false≢true h)
  is_true v c (Some s) h =
      let p = and_parts (same o v s.label) (eqb s.phase c) h in
      ap Some (slip_path s v c (sym (same_true v s.label p.0)) (eqb-true _ _ p.1))

  pub is_made : (v : L) (c : ℕ) (x : Slot L) → x ≡ Some (slip v c) → is_slip o v c x ≡ true
  is_made v c x e = ap (is_slip o v c) e ∙ and_from (same o v v) (eqb c c) (same_refl v) (eq-eqb c c refl)

  pub has_true : (v : L) (x : Slot L) → has_label o v x ≡ true → (s : Slip L) × (x ≡ Some s) × (s.label ≡ v)
  has_true v None h = absurd (false≢true h)
  has_true v (Some s) h = (s, refl, sym (same_true v s.label h))

  pub has_made : (v : L) (x : Slot L) (s : Slip L) → x ≡ Some s → s.label ≡ v → has_label o v x ≡ true
  has_made v x s e k = ap (has_label o v) e ∙ (ap (λ u. same o v u) k ∙ same_refl v)

  pub supports_from : (v : L) (c : ℕ) (x : Slot L) → supports o v c x ≡ true → (s : Slip L) × (x ≡ Some s) × ((v ≡ s.label) ⊎ (s.phase < c))
  supports_from v c None h = absurd (false≢true h)
  supports_from v c (Some s) h = (s, refl, go (or_cases (same o v s.label) (ltb s.phase c) h))
    where
      go : (same o v s.label ≡ true) ⊎ (ltb s.phase c ≡ true) → (v ≡ s.label) ⊎ (s.phase < c)
      go (inl k) = inl (same_true v s.label k)
      go (inr k) = inr (ltb-true _ _ k)

pub unphased_from : {L : Type 0} (x : Slot L) → unphased x ≡ true → (s : Slip L) × (x ≡ Some s) × (s.phase ≡ 0)
unphased_from None h = absurd (false≢true h)
unphased_from (Some s) h = (s, refl, eqb-true _ _ h)

pub claim_made : {L : Type 0} (f : ℕ) (x : Slot L) (s : Slip L) → x ≡ Some s → s.phase < f → as_claim f x ≡ Some s
claim_made f x s e l = ap (as_claim f) e ∙ cond-true (ltb s.phase f) (Some s) None (lt-ltb _ _ l)

pub pick_made : {L : Type 0} (g : ℕ) (x : Slot L) (s : Slip L) → x ≡ Some s → s.phase ≡ g → as_pick g x ≡ Some s
pick_made g x s e l = ap (as_pick g) e ∙ cond-true (eqb s.phase g) (Some s) None (eq-eqb _ _ l)

pub claim_from : {L : Type 0} (f : ℕ) (x : Slot L) (s : Slip L) → as_claim f x ≡ Some s → (x ≡ Some s) × (s.phase < f)
claim_from f None s e = absurd (none≢some s e)
claim_from f (Some r) s e = go (ltb r.phase f) refl e
  where
    go : (b : Bool) → ltb r.phase f ≡ b → cond b (Some r) None ≡ Some s → (Some r ≡ Some s) × (s.phase < f)
    go true k h = (h, subst (λ u. u.phase < f) (some_inj r s h) (ltb-true _ _ k))
    go false k h = absurd (none≢some s h)

pub pick_from : {L : Type 0} (g : ℕ) (x : Slot L) (s : Slip L) → as_pick g x ≡ Some s → (x ≡ Some s) × (s.phase ≡ g)
pick_from g None s e = absurd (none≢some s e)
pick_from g (Some r) s e = go (eqb r.phase g) refl e
  where
    go : (b : Bool) → eqb r.phase g ≡ b → cond b (Some r) None ≡ Some s → (Some r ≡ Some s) × (s.phase ≡ g)
    go true k h = (h, subst (λ u. u.phase ≡ g) (some_inj r s h) (eqb-true _ _ k))
    go false k h = absurd (none≢some s h)

pub only_from : {L : Type 0} (P : Slip L → Bool) (x : Slot L) (s : Slip L) → only P x ≡ Some s → (x ≡ Some s) × (P s ≡ true)
only_from P None s e = absurd (none≢some s e)
only_from P (Some r) s e = go (P r) refl e
  where
    go : (b : Bool) → P r ≡ b → cond b (Some r) None ≡ Some s → (Some r ≡ Some s) × (P s ≡ true)
    go true k h = (h, subst (λ u. P u ≡ true) (some_inj r s h) k)
    go false k h = absurd (none≢some s h)

pub only_made : {L : Type 0} (P : Slip L → Bool) (x : Slot L) (s : Slip L) → x ≡ Some s → P s ≡ true → only P x ≡ Some s
only_made P x s e k = ap (only P) e ∙ cond-true (P s) (Some s) None k

pub phased_from : {L : Type 0} (f : ℕ) (x : Option L) (s : Slip L) → with_phase f x ≡ Some s → (x ≡ Some s.label) × (s.phase ≡ f)
phased_from f None s e = absurd (none≢some s e)
phased_from f (Some v) s e = let k = some_inj (slip v f) s e in (ap (λ u. Some u.label) k, sym (ap (λ u. u.phase) k))

pub label_from : {L : Type 0} (x : Slot L) (v : L) → label_of x ≡ Some v → (s : Slip L) × (x ≡ Some s) × (s.label ≡ v)
label_from None v e = absurd (none≢some v e)
label_from (Some s) v e = (s, refl, some_inj s.label v e)
