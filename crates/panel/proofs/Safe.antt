-- One phase: what holds of the sound boards before it holds after it.
use Rattle.std.proofs.Common.{◌≡◌, ℕ, ◌+◌, ◌-◌, ◌*◌, ◌<◌, ◌≤◌, Bool, true, false, not, ◌&&◌, ◌||◌, leb, ◌⊎◌, Some, None, Option, sym, refl, ap, ◌∙◌, subst, inl, inr, arith}
use Rattle.std.proofs.lemmas.Bool.{and_parts, and_from, not-true, not_from_false, leb-true, le-leb, false≢true, true≢false, cases_lt, cases_eq}
use Rattle.exchanges.specs.Boards.{count, Sound}
use Rattle.labels.specs.Order.{Total}
use Rattle.panel.specs.Slots.{Comparison, same, Slot, is_slip, with_phase}
use Rattle.labels.specs.declared.slip.Slip.{Slip}
use Rattle.panel.specs.Phase.{Row, as_claim, as_pick, supports, unphased, choice_of, choice, enough}
use Rattle.panel.specs.Slots.{or_else}
use Rattle.panel.proofs.Counts.{count_mono, count_same, count_or, found, meet, share}
use Rattle.panel.proofs.Slips.{slip, none≢some, some_inj, same_true, same_refl, is_true, claim_from, pick_from, phased_from, supports_from, unphased_from}
use Rattle.panel.proofs.Chosen.{Standing, Reason, choice_reason, enough_from}

-- what one phase, number f after F others, does to the slots, and what was heard in it
pub record Phase {L : Type 0} (o : Comparison L) (n t : ℕ) (bad : ℕ → Bool) (F f : ℕ) (old new : ℕ → ℕ → Slot L) : Type 0 where
  pub total : Total o
  pub next : f ≡ F + 1
  pub many : 3 * t < n
  pub few : count bad n ≤ t
  pub firm_heard : ℕ → ℕ → Row L
  pub picks_heard : ℕ → Row L
  pub estimates_heard : ℕ → Row L
  pub firm_faithful : (g p q : ℕ) → g < f → Sound n bad p → Sound n bad q → (firm_heard p g q ≡ old q g) ⊎ (firm_heard p g q ≡ None)
  pub picks_faithful : (p q : ℕ) → Sound n bad p → Sound n bad q → (picks_heard p q ≡ new q f) ⊎ (picks_heard p q ≡ None)
  pub estimates_faithful : (p q : ℕ) → Sound n bad p → Sound n bad q → (estimates_heard p q ≡ new q 0) ⊎ (estimates_heard p q ≡ None)
  pub pick_is : (p : ℕ) → p < n → new p f ≡ with_phase f (choice o n t f (firm_heard p 0) (firm_heard p))
  pub estimate_is : (p : ℕ) → p < n → new p 0 ≡ or_else (with_phase f (enough o n (n - t) f (picks_heard p))) (old p 0)
  pub verdict_is : (p : ℕ) → p < n → new p 9 ≡ or_else (old p 9) (with_phase f (enough o n (2 * t + 1) f (estimates_heard p)))
  pub other_is : (p k : ℕ) → p < n → 1 ≤ k → k < f → new p k ≡ old p k

-- whether an estimate has label v and at least the number c
abbrev pub keeps_to : {L : Type 0} → Comparison L → L → ℕ → Slot L → Bool
keeps_to o v c None = false
keeps_to o v c (Some s) = same o v s.label && leb c s.phase

-- enough boards picked v in phase c, if the bad ones did
abbrev pub Quorum : {L : Type 0} → Comparison L → ℕ → ℕ → (ℕ → Bool) → (ℕ → ℕ → Slot L) → L → ℕ → Type 0
Quorum o n t bad slot v c = n ≤ t + count (λ r. bad r || is_slip o v c (slot r c)) n

-- no other label than v can be chosen any more
pub record Locked {L : Type 0} (o : Comparison L) (n t : ℕ) (bad : ℕ → Bool) (F : ℕ) (slot : ℕ → ℕ → Slot L) (v : L) (c : ℕ) : Type 0 where
  pub late : 1 ≤ c
  pub holders : t + 1 ≤ count (λ r. not (bad r) && keeps_to o v c (slot r 0)) n
  pub kept : (g r : ℕ) → c < g → g ≤ F → Sound n bad r → (s : Slip L) → slot r g ≡ Some s → s.label ≡ v

-- what holds between phases
pub record Safe {L : Type 0} (o : Comparison L) (n t : ℕ) (bad : ℕ → Bool) (F : ℕ) (slot : ℕ → ℕ → Slot L) : Type 0 where
  pub numbered : (q : ℕ) → Sound n bad q → (s : Slip L) → slot q 0 ≡ Some s → s.phase ≤ F
  pub quorum : (q : ℕ) → Sound n bad q → (s : Slip L) → slot q 0 ≡ Some s → 1 ≤ s.phase → Quorum o n t bad slot s.label s.phase
  pub locked : (q : ℕ) → Sound n bad q → (s : Slip L) → slot q 9 ≡ Some s → Locked o n t bad F slot s.label s.phase
  pub agreed : (p q : ℕ) → Sound n bad p → Sound n bad q → (s r : Slip L) → slot p 9 ≡ Some s → slot q 9 ≡ Some r → s.label ≡ r.label

-- what holds where every sound board proposed v
pub record Valid {L : Type 0} (n : ℕ) (bad : ℕ → Bool) (F : ℕ) (slot : ℕ → ℕ → Slot L) (v : L) : Type 0 where
  pub estimates : (q : ℕ) → Sound n bad q → (s : Slip L) → slot q 0 ≡ Some s → s.label ≡ v
  pub picks : (g q : ℕ) → 1 ≤ g → g ≤ F → Sound n bad q → (s : Slip L) → slot q g ≡ Some s → s.label ≡ v
  pub verdicts : (q : ℕ) → Sound n bad q → (s : Slip L) → slot q 9 ≡ Some s → s.label ≡ v

or_else_from : {L : Type 0} (a b : Slot L) (s : Slip L) → or_else a b ≡ Some s → (a ≡ Some s) ⊎ ((a ≡ None) × (b ≡ Some s))
or_else_from None b s e = inr (refl, e)
or_else_from (Some a) b s e = inl e

keeps_from : {L : Type 0} {o : Comparison L} (T : Total o) (v : L) (c : ℕ) (x : Slot L) → keeps_to o v c x ≡ true → (s : Slip L) × (x ≡ Some s) × (s.label ≡ v) × (c ≤ s.phase)
keeps_from {L} {o} T v c None h = absurd (false≢true h)
keeps_from {L} {o} T v c (Some s) h = let p = and_parts (same o v s.label) (leb c s.phase) h in (s, refl, sym (same_true T v s.label p.0), leb-true _ _ p.1)

keeps_made : {L : Type 0} {o : Comparison L} (T : Total o) (v : L) (c : ℕ) (x : Slot L) (s : Slip L) → x ≡ Some s → s.label ≡ v → c ≤ s.phase → keeps_to o v c x ≡ true
keeps_made {L} {o} T v c x s e k l = ap (keeps_to o v c) e ∙ and_from (same o v s.label) (leb c s.phase) (ap (same o v) k ∙ same_refl T v) (le-leb _ _ l)

-- the sound boards that keep to v
pub keeper : {L : Type 0} {o : Comparison L} (T : Total o) (n : ℕ) (bad : ℕ → Bool) (v : L) (c q : ℕ) (x : Slot L) → q < n → (not (bad q) && keeps_to o v c x) ≡ true → Sound n bad q × ((s : Slip L) × (x ≡ Some s) × (s.label ≡ v) × (c ≤ s.phase))
keeper {L} {o} T n bad v c q x l h = let p = and_parts (not (bad q)) (keeps_to o v c x) h in ((l, not-true _ p.0), keeps_from T v c x p.1)

module _ {L : Type 0} {o : Comparison L} {n t : ℕ} {bad : ℕ → Bool} {F f : ℕ} {old new : ℕ → ℕ → Slot L} (X : Phase o n t bad F f old new) where
  -- more than t boards include a sound one
  pub sound_among : (P : ℕ → Bool) → t < count P n → (q : ℕ) × Sound n bad q × (P q ≡ true)
  sound_among P h =
      let few = X.few in
      let r = found P bad n (omega arith) in
      (r.0, (r.1, r.3), r.2)

  or_sound : (b c : Bool) → b ≡ false → (b || c) ≡ true → c ≡ true
  or_sound true c e h = absurd (true≢false e)
  or_sound false c e h = h

  pub quorum_sound : (slot : ℕ → ℕ → Slot L) (v : L) (c : ℕ) → Quorum o n t bad slot v c → (q : ℕ) × Sound n bad q × (slot q c ≡ Some (slip v c))
  quorum_sound slot v c h =
      let many = X.many in
      let few = X.few in
      let r = found (λ r. bad r || is_slip o v c (slot r c)) bad n (omega arith) in
      (r.0, (r.1, r.3), is_true X.total v c (slot r.0 c) (or_sound (bad r.0) _ r.3 r.2))

  pub quorum_unique : (slot : ℕ → ℕ → Slot L) (v w : L) (c : ℕ) → Quorum o n t bad slot v c → Quorum o n t bad slot w c → v ≡ w
  quorum_unique slot v w c h k =
      let many = X.many in
      let few = X.few in
      let r = meet (λ r. bad r || is_slip o v c (slot r c)) (λ r. bad r || is_slip o w c (slot r c)) bad n (omega arith) in
      let a = is_true X.total v c (slot r.0 c) (or_sound (bad r.0) _ r.4 r.2) in
      let b = is_true X.total w c (slot r.0 c) (or_sound (bad r.0) _ r.4 r.3) in
      ap (λ s. s.label) (some_inj (slip v c) (slip w c) (sym a ∙ b))

  -- what a sound board heard from another as its claim is its estimate
  pub heard_claim : (p q : ℕ) → Sound n bad p → Sound n bad q → (s : Slip L) → as_claim f (X.firm_heard p 0 q) ≡ Some s → old q 0 ≡ Some s
  heard_claim p q fp fq s e =
      let c = claim_from f (X.firm_heard p 0 q) s e in
      let nx = X.next in
      go c.0 (X.firm_faithful 0 p q (omega arith) fp fq)
    where
      go : X.firm_heard p 0 q ≡ Some s → (X.firm_heard p 0 q ≡ old q 0) ⊎ (X.firm_heard p 0 q ≡ None) → old q 0 ≡ Some s
      go k (inl d) = sym d ∙ k
      go k (inr d) = absurd (none≢some s (sym d ∙ k))

  heard_pick : (g p q : ℕ) → g < f → Sound n bad p → Sound n bad q → (s : Slip L) → as_pick g (X.firm_heard p g q) ≡ Some s → old q g ≡ Some s
  heard_pick g p q l fp fq s e =
      let c = pick_from g (X.firm_heard p g q) s e in
      go c.0 (X.firm_faithful g p q l fp fq)
    where
      go : X.firm_heard p g q ≡ Some s → (X.firm_heard p g q ≡ old q g) ⊎ (X.firm_heard p g q ≡ None) → old q g ≡ Some s
      go k (inl d) = sym d ∙ k
      go k (inr d) = absurd (none≢some s (sym d ∙ k))

  -- the rows of a sound board as they count
  abbrev pub claims : ℕ → Row L
  claims p q = as_claim f (X.firm_heard p 0 q)

  abbrev pub picks : ℕ → ℕ → Row L
  picks p g q = as_pick g (X.firm_heard p g q)

  -- a standing claim has a sound board's pick under it
  pub standing_pick : (p : ℕ) → Sound n bad p → (s : Slip L) → Standing o n t (claims p) (picks p) s → (s.phase < f) × ((r : ℕ) × Sound n bad r × (old r s.phase ≡ Some s))
  standing_pick p fp s h =
      let l : s.phase < f = (claim_from f (X.firm_heard p 0 h.from) s h.is).1 in
      let k = h.picked in
      let r = sound_among (λ q. is_slip o s.label s.phase (picks p s.phase q)) (omega arith) in
      (l, (r.0, r.1, heard_pick s.phase p r.0 l fp r.1 s (is_true X.total s.label s.phase (picks p s.phase r.0) r.2)))

  -- a new pick is a choice
  pub pick_choice : (p : ℕ) → p < n → (s : Slip L) → new p f ≡ Some s → choice_of o n t (claims p) (picks p) ≡ Some s.label
  unfolding choice
  pick_choice p l s e = (phased_from f _ s (sym (X.pick_is p l) ∙ e)).0

  -- what is locked is what a sound board picks
  module _ (v : L) (c : ℕ) (K : Locked o n t bad F old v c) where
    locked_pick : (p : ℕ) → Sound n bad p → (s : Slip L) → new p f ≡ Some s → s.label ≡ v
    locked_pick p fp s e = go (choice_reason X.total n t (claims p) (picks p) s.label (pick_choice p fp.0 s e))
      where
        by_claim : (r : Slip L) (q : ℕ) → Sound n bad q → as_claim f (X.firm_heard p 0 q) ≡ Some r → ((u : Slip L) × (old q 0 ≡ Some u) × (u.label ≡ v) × (c ≤ u.phase)) → (r.label ≡ v) × (c ≤ r.phase)
        by_claim r q fq k h =
            let z : h.0 ≡ r = some_inj h.0 r (sym h.1 ∙ heard_claim p q fp fq r k) in
            (subst (λ u. u.label ≡ v) z h.2, subst (λ u. c ≤ u.phase) z h.3)

        early : (r : Slip L) → Standing o n t (claims p) (picks p) r → r.phase ≤ c → r.label ≡ v
        early r h l =
            let b = h.backed in
            let ho = K.holders in
            let m = X.many in
            let x = share (λ q. supports o r.label r.phase (claims p q)) (λ q. not (bad q) && keeps_to o v c (old q 0)) n (omega arith) in
            let y = keeper X.total n bad v c x.0 (old x.0 0) x.1 x.3 in
            let z = supports_from X.total r.label r.phase (claims p x.0) x.2 in
            let w = by_claim z.0 x.0 y.0 z.1 y.1 in
            last z.0 z.2 w.0 w.1
          where
            last : (u : Slip L) → (r.label ≡ u.label) ⊎ (u.phase < r.phase) → u.label ≡ v → c ≤ u.phase → r.label ≡ v
            last u (inl a) d d' = a ∙ d
            last u (inr a) d d' = absurd (omega arith)

        stood : (r : Slip L) → Standing o n t (claims p) (picks p) r → r.label ≡ v
        stood r h =
            let k = standing_pick p fp r h in
            split k.0 k.1 (cases_lt c r.phase)
          where
            split : r.phase < f → ((q : ℕ) × Sound n bad q × (old q r.phase ≡ Some r)) → (c < r.phase) ⊎ (r.phase ≤ c) → r.label ≡ v
            split l k (inl a) = let nx = X.next in K.kept r.phase k.0 a (omega arith) k.1 r k.2
            split l k (inr a) = early r h a

        go : Reason X.total n t (claims p) (picks p) s.label → s.label ≡ v
        go (inl h) = sym h.1 ∙ stood h.0 h.2
        go (inr h) =
            let b = h.0 in
            let ho = K.holders in
            let m = X.many in
            let x = share (λ q. unphased (claims p q)) (λ q. not (bad q) && keeps_to o v c (old q 0)) n (omega arith) in
            let y = keeper X.total n bad v c x.0 (old x.0 0) x.1 x.3 in
            let z = unphased_from (claims p x.0) x.2 in
            let w = by_claim z.0 x.0 y.0 z.1 y.1 in
            let w1 : c ≤ z.0.phase = w.1 in
            let z2 : z.0.phase ≡ 0 = z.2 in
            let la = K.late in
            absurd (omega arith)

  -- a new estimate is the old one, or stands on a quorum of this phase
  abbrev pub Set : Slip L → Type 0
  Set s = (s.phase ≡ f) × Quorum o n t bad new s.label f

  set_quorum : (p : ℕ) → Sound n bad p → (v : L) → n - t ≤ count (λ q. is_slip o v f (X.picks_heard p q)) n → Quorum o n t bad new v f
  set_quorum p fp v h =
      let k = count_mono (λ q. is_slip o v f (X.picks_heard p q)) (λ r. bad r || is_slip o v f (new r f)) n step in
      omega arith
    where
      faith : (q : ℕ) → (X.picks_heard p q ≡ new q f) ⊎ (X.picks_heard p q ≡ None) → is_slip o v f (X.picks_heard p q) ≡ true → is_slip o v f (new q f) ≡ true
      faith q (inl d) e = ap (is_slip o v f) (sym d) ∙ e
      faith q (inr d) e = absurd (false≢true (ap (is_slip o v f) (sym d) ∙ e))

      by : (q : ℕ) (b : Bool) → bad q ≡ b → q < n → is_slip o v f (X.picks_heard p q) ≡ true → (b || is_slip o v f (new q f)) ≡ true
      by q true eb l e = refl
      by q false eb l e = faith q (X.picks_faithful p q fp (l, eb)) e

      step : (q : ℕ) → q < n → is_slip o v f (X.picks_heard p q) ≡ true → (bad q || is_slip o v f (new q f)) ≡ true
      step q l e = by q (bad q) refl l e

  pub new_estimate : (p : ℕ) → Sound n bad p → (s : Slip L) → new p 0 ≡ Some s → (old p 0 ≡ Some s) ⊎ Set s
  new_estimate p fp s e = go (or_else_from _ _ s (sym (X.estimate_is p fp.0) ∙ e))
    where
      go : (with_phase f (enough o n (n - t) f (X.picks_heard p)) ≡ Some s) ⊎ ((with_phase f (enough o n (n - t) f (X.picks_heard p)) ≡ None) × (old p 0 ≡ Some s)) → (old p 0 ≡ Some s) ⊎ Set s
      go (inl h) = let k = phased_from f _ s h in inr (k.1, set_quorum p fp s.label (enough_from X.total n (n - t) f (X.picks_heard p) s.label k.0))
      go (inr h) = inl h.1

  -- a quorum of an earlier phase is still there
  quorum_on : (v : L) (c : ℕ) → 1 ≤ c → c < f → Quorum o n t bad old v c → Quorum o n t bad new v c
  quorum_on v c a b h =
      let e = count_same (λ r. bad r || is_slip o v c (new r c)) (λ r. bad r || is_slip o v c (old r c)) n (λ r l. ap (λ x. bad r || is_slip o v c x) (X.other_is r c l a b)) in
      omega arith

  module _ (S : Safe o n t bad F old) where
    new_quorum : (q : ℕ) → Sound n bad q → (s : Slip L) → new q 0 ≡ Some s → 1 ≤ s.phase → Quorum o n t bad new s.label s.phase
    new_quorum q fq s e l = go (new_estimate q fq s e)
      where
        go : (old q 0 ≡ Some s) ⊎ Set s → Quorum o n t bad new s.label s.phase
        go (inl h) = let m = S.numbered q fq s h in let nx = X.next in quorum_on s.label s.phase l (omega arith) (S.quorum q fq s h l)
        go (inr h) = subst (λ c. Quorum o n t bad new s.label c) (sym h.0) h.1

    new_numbered : (q : ℕ) → Sound n bad q → (s : Slip L) → new q 0 ≡ Some s → s.phase ≤ f
    new_numbered q fq s e = go (new_estimate q fq s e)
      where
        go : (old q 0 ≡ Some s) ⊎ Set s → s.phase ≤ f
        go (inl h) = let m = S.numbered q fq s h in let nx = X.next in omega arith
        go (inr h) = let m = h.0 in omega arith

    -- a lock lasts
    lock_on : (v : L) (c : ℕ) → c ≤ F → Locked o n t bad F old v c → Locked o n t bad f new v c
    lock_on v c cF K = record {
      late = K.late;
      holders = let k = count_mono (λ r. not (bad r) && keeps_to o v c (old r 0)) (λ r. not (bad r) && keeps_to o v c (new r 0)) n still in let h = K.holders in omega arith;
      kept = kept;
    }
      where
        held : (q : ℕ) → Sound n bad q → ((s : Slip L) × (old q 0 ≡ Some s) × (s.label ≡ v) × (c ≤ s.phase)) → (x : Option L) → enough o n (n - t) f (X.picks_heard q) ≡ x → keeps_to o v c (new q 0) ≡ true
        held q fq h None k = keeps_made X.total v c (new q 0) h.0 (X.estimate_is q fq.0 ∙ (ap (λ u. or_else (with_phase f u) (old q 0)) k ∙ h.1)) h.2 h.3
        held q fq h (Some w) k =
            let e : new q 0 ≡ Some (slip w f) = X.estimate_is q fq.0 ∙ ap (λ u. or_else (with_phase f u) (old q 0)) k in
            let Q = set_quorum q fq w (enough_from X.total n (n - t) f (X.picks_heard q) w k) in
            let r = quorum_sound new w f Q in
            let nx = X.next in
            keeps_made X.total v c (new q 0) (slip w f) e (locked_pick v c K r.0 r.1 (slip w f) r.2) (omega arith)

        still : (q : ℕ) → q < n → (not (bad q) && keeps_to o v c (old q 0)) ≡ true → (not (bad q) && keeps_to o v c (new q 0)) ≡ true
        still q l h =
            let k = keeper X.total n bad v c q (old q 0) l h in
            and_from (not (bad q)) (keeps_to o v c (new q 0)) (not_from_false _ k.0.1) (held q k.0 k.1 _ refl)

        kept : (g r : ℕ) → c < g → g ≤ f → Sound n bad r → (s : Slip L) → new r g ≡ Some s → s.label ≡ v
        kept g r a b fr s e = go (cases_eq g f)
          where
            go : (g ≡ f) ⊎ (g ≡ f → ⊥) → s.label ≡ v
            go (inl k) = locked_pick v c K r fr s (subst (λ u. new r u ≡ Some s) k e)
            go (inr k) = let la = K.late in let nx = X.next in K.kept g r a (omega arith) fr s (sym (X.other_is r g fr.0 (omega arith) (omega arith)) ∙ e)

    -- a new verdict is the old one, or stands on estimates of this phase
    abbrev pub Taken : Slip L → Type 0
    Taken s = (s.phase ≡ f) × Locked o n t bad f new s.label f × Quorum o n t bad new s.label f

    taken_lock : (p : ℕ) → Sound n bad p → (v : L) → 2 * t + 1 ≤ count (λ q. is_slip o v f (X.estimates_heard p q)) n → Locked o n t bad f new v f
    taken_lock p fp v h = record {
      late = let nx = X.next in omega arith;
      holders =
          let a = count_mono (λ q. is_slip o v f (X.estimates_heard p q)) (λ r. bad r || (not (bad r) && keeps_to o v f (new r 0))) n (λ q l e. by q (bad q) refl l e) in
          let b = count_or bad (λ r. not (bad r) && keeps_to o v f (new r 0)) n in
          let few = X.few in
          omega arith;
      kept = λ g r a b fr s e. absurd (omega arith);
    }
      where
        faith : (q : ℕ) → (X.estimates_heard p q ≡ new q 0) ⊎ (X.estimates_heard p q ≡ None) → is_slip o v f (X.estimates_heard p q) ≡ true → keeps_to o v f (new q 0) ≡ true
        faith q (inl d) e = keeps_made X.total v f (new q 0) (slip v f) (sym d ∙ is_true X.total v f _ e) refl (omega arith)
        faith q (inr d) e = absurd (false≢true (ap (is_slip o v f) (sym d) ∙ e))

        by : (q : ℕ) (b : Bool) → bad q ≡ b → q < n → is_slip o v f (X.estimates_heard p q) ≡ true → (b || (not b && keeps_to o v f (new q 0))) ≡ true
        by q true eb l e = refl
        by q false eb l e = faith q (X.estimates_faithful p q fp (l, eb)) e

    taken_quorum : (p : ℕ) → Sound n bad p → (v : L) → 2 * t + 1 ≤ count (λ q. is_slip o v f (X.estimates_heard p q)) n → Quorum o n t bad new v f
    taken_quorum p fp v h =
        let r = sound_among (λ q. is_slip o v f (X.estimates_heard p q)) (omega arith) in
        let e = is_true X.total v f (X.estimates_heard p r.0) r.2 in
        let nx = X.next in
        new_quorum r.0 r.1 (slip v f) (faith r.0 (X.estimates_faithful p r.0 fp r.1) e) (omega arith)
      where
        faith : (q : ℕ) → (X.estimates_heard p q ≡ new q 0) ⊎ (X.estimates_heard p q ≡ None) → X.estimates_heard p q ≡ Some (slip v f) → new q 0 ≡ Some (slip v f)
        faith q (inl d) e = sym d ∙ e
        faith q (inr d) e = absurd (none≢some (slip v f) (sym d ∙ e))

    pub new_verdict : (p : ℕ) → Sound n bad p → (s : Slip L) → new p 9 ≡ Some s → (old p 9 ≡ Some s) ⊎ Taken s
    new_verdict p fp s e = go (or_else_from _ _ s (sym (X.verdict_is p fp.0) ∙ e))
      where
        go : (old p 9 ≡ Some s) ⊎ ((old p 9 ≡ None) × (with_phase f (enough o n (2 * t + 1) f (X.estimates_heard p)) ≡ Some s)) → (old p 9 ≡ Some s) ⊎ Taken s
        go (inl h) = inl h
        go (inr h) =
            let k = phased_from f _ s h.1 in
            let c = enough_from X.total n (2 * t + 1) f (X.estimates_heard p) s.label k.0 in
            inr (k.1, taken_lock p fp s.label c, taken_quorum p fp s.label c)

    -- a verdict taken now is the one that an earlier verdict locked
    new_old : (p q : ℕ) → Sound n bad p → Sound n bad q → (s r : Slip L) → old p 9 ≡ Some s → Taken r → s.label ≡ r.label
    new_old p q fp fq s r e h =
        let k = quorum_sound new r.label f h.2 in
        sym (locked_pick s.label s.phase (S.locked p fp s e) k.0 k.1 (slip r.label f) k.2)

    new_agreed : (p q : ℕ) → Sound n bad p → Sound n bad q → (s r : Slip L) → new p 9 ≡ Some s → new q 9 ≡ Some r → s.label ≡ r.label
    new_agreed p q fp fq s r a b = go (new_verdict p fp s a) (new_verdict q fq r b)
      where
        go : (old p 9 ≡ Some s) ⊎ Taken s → (old q 9 ≡ Some r) ⊎ Taken r → s.label ≡ r.label
        go (inl c) (inl d) = S.agreed p q fp fq s r c d
        go (inl c) (inr d) = new_old p q fp fq s r c d
        go (inr c) (inl d) = sym (new_old q p fq fp r s d c)
        go (inr c) (inr d) = quorum_unique new s.label r.label f c.2 d.2

    -- a lock's number is that of a phase that has run
    pub safe_on : Safe o n t bad f new
    safe_on = record {
      numbered = new_numbered;
      quorum = new_quorum;
      locked = λ q fq s e. new_locked q fq s (new_verdict q fq s e);
      agreed = new_agreed;
    }
      where
        lock_number : (v : L) (c : ℕ) → Locked o n t bad F old v c → c ≤ F
        lock_number v c K =
            let h = K.holders in
            let r = sound_among (λ r. not (bad r) && keeps_to o v c (old r 0)) (omega arith) in
            let k = keeper X.total n bad v c r.0 (old r.0 0) r.1.0 r.2 in
            let m : k.1.0.phase ≤ F = S.numbered r.0 k.0 k.1.0 k.1.1 in
            let l : c ≤ k.1.0.phase = k.1.3 in
            omega arith

        new_locked : (q : ℕ) → Sound n bad q → (s : Slip L) → (old q 9 ≡ Some s) ⊎ Taken s → Locked o n t bad f new s.label s.phase
        new_locked q fq s (inl h) = let K = S.locked q fq s h in lock_on s.label s.phase (lock_number s.label s.phase K) K
        new_locked q fq s (inr h) = subst (λ c. Locked o n t bad f new s.label c) (sym h.0) h.1
