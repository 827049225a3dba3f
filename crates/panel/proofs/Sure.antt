-- One phase: a common proposal stays, and a phase without losses gives every sound board a verdict.
use Rattle.std.proofs.Common.{◌≡◌, ℕ, ◌+◌, ◌-◌, ◌*◌, ◌<◌, ◌≤◌, Bool, true, false, cond, ◌||◌, ltb, ◌⊎◌, Some, None, sym, refl, ap, ◌∙◌, subst, inl, inr, arith}
use Rattle.std.proofs.lemmas.Bool.{or_left, or_right, eq-eqb, ltb-true, ltb-false, lt-ltb, cond-false, cases_lt, cases_eq}
use Rattle.exchanges.specs.Boards.{count, Sound}
use Rattle.panel.specs.Slots.{Comparison, same, Slot, has_label, is_slip, with_phase}
use Rattle.labels.specs.declared.slip.Slip.{Slip}
use Rattle.panel.specs.Phase.{Row, best, as_claim, as_pick, supports, unphased, choice_of, choice}
use Rattle.panel.specs.Slots.{or_else}
use Rattle.panel.proofs.Counts.{count_mono, count_or, count_not}
use Rattle.panel.proofs.Slips.{slip, none≢some, same_refl, is_true, is_made, has_true, has_made, claim_from, claim_made, pick_made, unphased_from}
use Rattle.panel.proofs.Rows.{best_from, best_some, best_most}
use Rattle.panel.proofs.Chosen.{Reason, choice_reason, choice_standing, choice_unphased, choice_same, enough_from, enough_some}
use Rattle.panel.proofs.Safe.{Phase, Quorum, Safe, Valid, sound_among, quorum_sound, quorum_unique, heard_claim, standing_pick, pick_choice, new_estimate, new_verdict, claims, picks, Set, Taken}

module _ {L : Type 0} {o : Comparison L} {n t : ℕ} {bad : ℕ → Bool} {F f : ℕ} {old new : ℕ → ℕ → Slot L} (X : Phase o n t bad F f old new) (S : Safe o n t bad F old) where
  module _ (v : L) (V : Valid n bad F old v) where
    valid_pick : (p : ℕ) → Sound n bad p → (s : Slip L) → new p f ≡ Some s → s.label ≡ v
    valid_pick p fp s e = go (choice_reason X.total n t (claims X p) (picks X p) s.label (pick_choice X p fp.0 s e))
      where
        by : (q : ℕ) (b : Bool) → bad q ≡ b → q < n → unphased (claims X p q) ≡ true → (b || has_label o v (claims X p q)) ≡ true
        by q true eb l h = refl
        by q false eb l h =
            let k = unphased_from (claims X p q) h in
            has_made X.total v (claims X p q) k.0 k.1 (V.estimates q (l, eb) k.0 (heard_claim X p q fp (l, eb) k.0 k.1))

        go : Reason X.total n t (claims X p) (picks X p) s.label → s.label ≡ v
        go (inl h) =
            let k = standing_pick X p fp h.0 h.2 in
            let r = k.1 in
            let nx = X.next in
            let l : h.0.phase < f = k.0 in
            sym h.1 ∙ V.picks h.0.phase r.0 h.2.late (omega arith) r.1 h.0 r.2
        go (inr h) =
            let a = count_mono (λ q. unphased (claims X p q)) (λ q. bad q || has_label o v (claims X p q)) n (λ q l k. by q (bad q) refl l k) in
            let b = count_or bad (λ q. has_label o v (claims X p q)) n in
            let m = h.1 v in
            let c = h.0 in
            let few = X.few in
            let many = X.many in
            let r = sound_among X (λ q. has_label o s.label (claims X p q)) (omega arith) in
            let k = has_true X.total s.label (claims X p r.0) r.2 in
            sym k.2 ∙ V.estimates r.0 r.1 k.0 (heard_claim X p r.0 fp r.1 k.0 k.1)

    quorum_valid : (w : L) → Quorum o n t bad new w f → w ≡ v
    quorum_valid w Q = let r = quorum_sound X new w f Q in valid_pick r.0 r.1 (slip w f) r.2

    pub valid_on : Valid n bad f new v
    valid_on = record {
      estimates = λ q fq s e. estimate q fq s (new_estimate X q fq s e);
      picks = pick;
      verdicts = λ q fq s e. verdict q fq s (new_verdict X S q fq s e);
    }
      where
        estimate : (q : ℕ) → Sound n bad q → (s : Slip L) → (old q 0 ≡ Some s) ⊎ Set X s → s.label ≡ v
        estimate q fq s (inl h) = V.estimates q fq s h
        estimate q fq s (inr h) = quorum_valid s.label h.1

        pick : (g q : ℕ) → 1 ≤ g → g ≤ f → Sound n bad q → (s : Slip L) → new q g ≡ Some s → s.label ≡ v
        pick g q a b fq s e = go (cases_eq g f)
          where
            go : (g ≡ f) ⊎ (g ≡ f → ⊥) → s.label ≡ v
            go (inl k) = valid_pick q fq s (subst (λ u. new q u ≡ Some s) k e)
            go (inr k) = let nx = X.next in V.picks g q a (omega arith) fq s (sym (X.other_is q g fq.0 a (omega arith)) ∙ e)

        verdict : (q : ℕ) → Sound n bad q → (s : Slip L) → (old q 9 ≡ Some s) ⊎ Taken X S s → s.label ≡ v
        verdict q fq s (inl h) = V.verdicts q fq s h
        verdict q fq s (inr h) = quorum_valid s.label h.2

  -- nothing is lost between sound boards, and the firm exchanges tell all of them the same
  pub record Lossless : Type 0 where
    pub proposed : (q : ℕ) → Sound n bad q → (s : Slip L) × (old q 0 ≡ Some s)
    pub firm_same : (g p p' q : ℕ) → g < f → Sound n bad p → Sound n bad p' → q < n → X.firm_heard p g q ≡ X.firm_heard p' g q
    pub firm_all : (g p q : ℕ) → g < f → Sound n bad p → Sound n bad q → X.firm_heard p g q ≡ old q g
    pub picks_all : (p q : ℕ) → Sound n bad p → Sound n bad q → X.picks_heard p q ≡ new q f
    pub estimates_all : (p q : ℕ) → Sound n bad p → Sound n bad q → X.estimates_heard p q ≡ new q 0

  module _ (G : Lossless) where
    -- the sound boards' estimates, and the greatest number among them
    abbrev sound_estimates : Row L
    sound_estimates q = cond (bad q) None (old q 0)

    abbrev higher : Slip L → Slip L → Bool
    higher s r = ltb r.phase s.phase

    abbrev Greatest : Type 0
    Greatest = (q : ℕ) × Sound n bad q × ((s : Slip L) × (old q 0 ≡ Some s) × ((r : ℕ) → Sound n bad r → (u : Slip L) → old r 0 ≡ Some u → u.phase ≤ s.phase))

    greatest : (p : ℕ) → Sound n bad p → Greatest
    greatest p fp =
        let e = G.proposed p fp in
        let b = best_some higher sound_estimates n p e.0 fp.0 (cond-false (bad p) None (old p 0) fp.1 ∙ e.1) in
        let k = best_from higher sound_estimates n b.0 b.1 in
        at k.0 b.0 k.1 k.2 b.1
      where
        sound : (q : ℕ) (s : Slip L) (c : Bool) → bad q ≡ c → cond c None (old q 0) ≡ Some s → (bad q ≡ false) × (old q 0 ≡ Some s)
        sound q s true a h = absurd (none≢some s h)
        sound q s false a h = (a, h)

        at : (q : ℕ) (s : Slip L) → q < n → sound_estimates q ≡ Some s → best higher sound_estimates n ≡ Some s → Greatest
        at q s l e b =
            let k = sound q s (bad q) refl e in
            (q, (l, k.0), (s, k.1, λ r fr u h. best_most higher sound_estimates (λ s. s.phase) (λ a b m. let y = ltb-true _ _ m in omega arith) (λ a b m. ltb-false _ _ m) n s b r u fr.0 (cond-false (bad r) None (old r 0) fr.1 ∙ h)))

    -- what a sound board heard as a claim from another
    claim_is : (p q : ℕ) → Sound n bad p → Sound n bad q → (s : Slip L) → old q 0 ≡ Some s → claims X p q ≡ Some s
    claim_is p q fp fq s e =
        let nx = X.next in
        let m = S.numbered q fq s e in
        claim_made f (X.firm_heard p 0 q) s (G.firm_all 0 p q (omega arith) fp fq ∙ e) (omega arith)

    -- where all sound boards pass, enough do
    most_pass : (P : ℕ → Bool) → ((q : ℕ) → Sound n bad q → P q ≡ true) → n ≤ t + count P n
    most_pass P h = let a = count_not bad P n (λ q l e. h q (l, e)) in let few = X.few in omega arith

    has_choice : (p : ℕ) → Sound n bad p → (v : L) × (choice_of o n t (claims X p) (picks X p) ≡ Some v)
    has_choice p fp = at (greatest p fp)
      where
        at : Greatest → (v : L) × (choice_of o n t (claims X p) (picks X p) ≡ Some v)
        at (q, fq, (s, e, top)) = go (cases_lt 0 s.phase)
          where
            zeros : s.phase ≤ 0 → (r : ℕ) → Sound n bad r → unphased (claims X p r) ≡ true
            zeros z r fr =
                let u = G.proposed r fr in
                let m : u.0.phase ≤ s.phase = top r fr u.0 u.1 in
                ap unphased (claim_is p r fp fr u.0 u.1) ∙ eq-eqb u.0.phase 0 (omega arith)

            supports_all : 1 ≤ s.phase → (r : ℕ) → Sound n bad r → supports o s.label s.phase (claims X p r) ≡ true
            supports_all l r fr = let u = G.proposed r fr in ap (supports o s.label s.phase) (claim_is p r fp fr u.0 u.1) ∙ level u.0 u.1 (cases_eq u.0.phase s.phase)
              where
                level : (u : Slip L) → old r 0 ≡ Some u → (u.phase ≡ s.phase) ⊎ (u.phase ≡ s.phase → ⊥) → (same o s.label u.label || ltb u.phase s.phase) ≡ true
                level u d (inl k) =
                    let Q : Quorum o n t bad old u.label s.phase = subst (λ c. Quorum o n t bad old u.label c) k (S.quorum r fr u d (omega arith)) in
                    let z : s.label ≡ u.label = quorum_unique X old s.label u.label s.phase (S.quorum q fq s e l) Q in
                    or_left (same o s.label u.label) (ltb u.phase s.phase) (ap (same o s.label) (sym z) ∙ same_refl X.total s.label)
                level u d (inr k) = let m = top r fr u d in or_right (same o s.label u.label) (ltb u.phase s.phase) (lt-ltb u.phase s.phase (omega arith))

            picks_all : 1 ≤ s.phase → t + 1 ≤ count (λ r. is_slip o s.label s.phase (picks X p s.phase r)) n
            picks_all l =
                let Q = S.quorum q fq s e l in
                let a = count_mono (λ r. bad r || is_slip o s.label s.phase (old r s.phase)) (λ r. bad r || is_slip o s.label s.phase (picks X p s.phase r)) n (λ r m h. by r (bad r) refl m h) in
                let b = count_or bad (λ r. is_slip o s.label s.phase (picks X p s.phase r)) n in
                let few = X.few in
                let many = X.many in
                omega arith
              where
                by : (r : ℕ) (b : Bool) → bad r ≡ b → r < n → (b || is_slip o s.label s.phase (old r s.phase)) ≡ true → (b || is_slip o s.label s.phase (picks X p s.phase r)) ≡ true
                by r true eb m h = refl
                by r false eb m h =
                    let nx = X.next in
                    let k = S.numbered q fq s e in
                    is_made X.total s.label s.phase (picks X p s.phase r) (pick_made s.phase _ s (G.firm_all s.phase p r (omega arith) fp (m, eb) ∙ is_true X.total s.label s.phase (old r s.phase) h) refl)

            go : (0 < s.phase) ⊎ (s.phase ≤ 0) → (v : L) × (choice_of o n t (claims X p) (picks X p) ≡ Some v)
            go (inl l) = choice_standing X.total n t (claims X p) (picks X p) s (record {
              from = q;
              below = fq.0;
              is = claim_is p q fp fq s e;
              late = l;
              backed = let a = most_pass (λ r. supports o s.label s.phase (claims X p r)) (supports_all l) in omega arith;
              picked = picks_all l;
            })
            go (inr z) =
                let many = X.many in
                let a = most_pass (λ r. unphased (claims X p r)) (zeros z) in
                choice_unphased X.total n t (claims X p) (picks X p) (omega arith) (omega arith)

    -- all sound boards have the same choice
    same_choice : (p p' : ℕ) → Sound n bad p → Sound n bad p' → choice_of o n t (claims X p) (picks X p) ≡ choice_of o n t (claims X p') (picks X p')
    same_choice p p' fp fp' =
        let nx = X.next in
        choice_same X.total n t f (claims X p) (claims X p') (picks X p) (picks X p') (λ q s e. (claim_from f (X.firm_heard p' 0 q) s e).1) (λ q l. ap (as_claim f) (G.firm_same 0 p p' q (omega arith) fp fp' l)) (λ v g q b a l. ap (λ u. is_slip o v g (as_pick g u)) (G.firm_same g p p' q a fp fp' l))

    module _ (v : L) (picked : (q : ℕ) → Sound n bad q → new q f ≡ Some (slip v f)) where
      estimated : (p : ℕ) → Sound n bad p → new p 0 ≡ Some (slip v f)
      estimated p fp =
          let many = X.many in
          let a = most_pass (λ q. is_slip o v f (X.picks_heard p q)) (λ q fq. is_made X.total v f _ (G.picks_all p q fp fq ∙ picked q fq)) in
          let w = enough_some X.total n (n - t) f (X.picks_heard p) v (omega arith) (omega arith) in
          let c = enough_from X.total n (n - t) f (X.picks_heard p) w.0 w.1 in
          let r = sound_among X (λ q. is_slip o w.0 f (X.picks_heard p q)) (omega arith) in
          let e : Some (slip w.0 f) ≡ Some (slip v f) = sym (is_true X.total w.0 f (X.picks_heard p r.0) r.2) ∙ (G.picks_all p r.0 fp r.1 ∙ picked r.0 r.1) in
          X.estimate_is p fp.0 ∙ (ap (λ u. or_else (with_phase f u) (old p 0)) w.1 ∙ e)

      decided : (p : ℕ) → Sound n bad p → (s : Slip L) × (new p 9 ≡ Some s)
      decided p fp =
          let many = X.many in
          let a = most_pass (λ q. is_slip o v f (X.estimates_heard p q)) (λ q fq. is_made X.total v f _ (G.estimates_all p q fp fq ∙ estimated q fq)) in
          let w = enough_some X.total n (2 * t + 1) f (X.estimates_heard p) v (omega arith) (omega arith) in
          either (old p 9) w.0 (X.verdict_is p fp.0 ∙ ap (λ u. or_else (old p 9) (with_phase f u)) w.1)
        where
          either : (x : Slot L) (w : L) → new p 9 ≡ or_else x (Some (slip w f)) → (s : Slip L) × (new p 9 ≡ Some s)
          either None w e = (slip w f, e)
          either (Some s) w e = (s, e)

    pub sure : (p : ℕ) → Sound n bad p → (s : Slip L) × (new p 9 ≡ Some s)
    unfolding choice
    sure p fp =
        let c = has_choice p fp in
        decided c.0 (λ q fq. X.pick_is q fq.0 ∙ ap (with_phase f) (same_choice q p fq fp ∙ c.1)) p fp
