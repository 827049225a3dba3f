-- The promises over whole histories.
use Rattle.std.proofs.Common.{◌≡◌, ℕ, ◌+◌, ◌*◌, ◌<◌, ◌≤◌, Bool, true, cond, not, ◌&&◌, ◌⊎◌, List, [], ◌∷◌, ◌++◌, length, get_or, drop, set, replicate, is_some, Some, None, Option, sym, refl, ap, ◌∙◌, subst, inl, inr, append_assoc, append-nil, arith}
use Rattle.std.proofs.lemmas.List.{get_or-set_same, get_or-set_other, get_or-replicate, get_or_append_left, length-replicate, length-append, length-drop, length-set}
use Rattle.std.proofs.lemmas.Bool.{not-false, ltb-false, leb-false, true≢false, cases_eq}
use Rattle.exchanges.specs.Boards.{count, fits, Sound}
use Rattle.exchanges.specs.Exchange.{Exchange, Keeps}
use Rattle.labels.specs.Order.{Total}
use Rattle.panel.specs.Slots.{Comparison, Slot, with_phase, or_else}
use Rattle.labels.specs.declared.slip.Slip.{Slip}
use Rattle.panel.specs.Phase.{enough}
use Rattle.panel.specs.Panel.{State, at, Event, Lengths, fit, propose, phase, verdict, new, estimate_row, phased, table, refusal, change, step, run, after}
use Rattle.panel.specs.Settled.{HoldsSlip, Holds, Proposed, SoundIn, Fair, Good, Settled}
use Rattle.panel.proofs.Counts.{some_board}
use Rattle.panel.proofs.Slips.{slip, none≢some, some_inj}
use Rattle.panel.proofs.Safe.{Safe, Valid, safe_on, keeper, keeps_to}
use Rattle.panel.proofs.Sure.{valid_on, sure}
use Rattle.panel.proofs.Phases.{none_fits, allowed, decided_length, estimate_at, verdict_at, the_phase, lossless}

module _ {L : Type 0} (o : Comparison L) where
  pub run_append : (s : State L) (h k : List (Event L)) → run o s (h ++ k) ≡ run o (run o s h) k
  run_append s [] k = refl
  run_append s (e ∷ h) k = run_append (step o s e) h k

  -- a call is accepted and changes the panel, or it is refused and changes nothing
  pub step_cases : (P : State L → Type 0) (s : State L) (e : Event L) → P s → (refusal s e ≡ None → P (change o s e)) → P (step o s e)
  step_cases P s e here there = go (refusal s e) refl
    where
      go : (x : Option ℕ) → refusal s e ≡ x → P (step o s e)
      go None k = subst (λ x. P (cond (is_some x) s (change o s e))) (sym k) (there k)
      go (Some r) k = subst (λ x. P (cond (is_some x) s (change o s e))) (sym k) here

  pub step_accepted : (s : State L) (e : Event L) → refusal s e ≡ None → step o s e ≡ change o s e
  step_accepted s e k = ap (λ x. cond (is_some x) s (change o s e)) k

  module _ (m : List (Slot L)) where
    pub after_snoc : (h : List (Event L)) (e : Event L) → after o m (h ++ (e ∷ [])) ≡ step o (after o m h) e
    after_snoc h e = run_append (new m) h (e ∷ [])

    -- what holds of a new panel, and is kept by each call of the history, holds after it
    through : (P : State L → Type 0) (h₁ h : List (Event L)) → P (after o m h₁) → ((h₂ : List (Event L)) (e : Event L) (h₃ : List (Event L)) → h₁ ++ h ≡ h₂ ++ (e ∷ h₃) → P (after o m h₂) → P (step o (after o m h₂) e)) → P (after o m (h₁ ++ h))
    through P h₁ [] p on = subst (λ u. P (after o m u)) (sym (append-nil h₁)) p
    through P h₁ (e ∷ h) p on =
        let a : (h₁ ++ (e ∷ [])) ++ h ≡ h₁ ++ (e ∷ h) = append_assoc h₁ (e ∷ []) h in
        subst (λ u. P (after o m u)) a
        (through P (h₁ ++ (e ∷ [])) h (subst P (sym (after_snoc h₁ e)) (on h₁ e h refl p)) (λ h₂ d h₃ k. on h₂ d h₃ (sym a ∙ k)))

    pub history : (P : State L → Type 0) (h : List (Event L)) → P (new m) → ((h₂ : List (Event L)) (e : Event L) (h₃ : List (Event L)) → h ≡ h₂ ++ (e ∷ h₃) → P (after o m h₂) → P (step o (after o m h₂) e)) → P (after o m h)
    history P h p on = through P [] h p on

-- the memory after a fit: the slots of the boards are silent
silent : {L : Type 0} (n : ℕ) (slots : List (Slot L)) (i : ℕ) → i < 10 * n → get_or (replicate (10 * n) None ++ drop (10 * n) slots) i None ≡ None
silent {L} n slots i l =
    let e = length-replicate {A = Slot L} (10 * n) None in
    get_or_append_left (replicate (10 * n) None) (drop (10 * n) slots) None i (omega arith) ∙ get_or-replicate (10 * n) i None None l

silent_length : {L : Type 0} (n : ℕ) (slots : List (Slot L)) → 10 * n ≤ length slots → length (replicate {A = Slot L} (10 * n) None ++ drop (10 * n) slots) ≡ length slots
silent_length {L} n slots l =
    let e = length-replicate {A = Slot L} (10 * n) None in
    let d = length-drop (10 * n) slots in
    let a = length-append (replicate {A = Slot L} (10 * n) None) (drop (10 * n) slots) in
    omega arith

-- the memory has room for the boards
abbrev pub Roomy : {L : Type 0} → State L → Type 0
Roomy s = 10 * s.boards ≤ length s.slots

module _ {L : Type 0} (o : Comparison L) (T : Total o) where
  room_step : (s : State L) (e : Event L) → Roomy s → Roomy (step o s e)
  room_step s e b = step_cases o Roomy s e b (go e)
    where
      go : (e : Event L) → refusal s e ≡ None → Roomy (change o s e)
      go (fit n t) h =
          let a = ltb-false (length s.slots) (10 * n) (none_fits (table s (fit n t)) h).1.1.0 in
          let e = silent_length n s.slots a in
          omega arith
      go (propose q v) h = let e = length-set s.slots (10 * q + 0) (Some (slip v 0)) in omega arith
      go (phase x l) h = let r = (allowed s x l h).room in let e = decided_length o s.boards s.faults (s.phases + 1) x s.slots (omega arith) (omega arith) b in omega arith
      go (verdict q) h = b

  pub room : (m : List (Slot L)) (h : List (Event L)) → Roomy (after o m h)
  room m h = history o m Roomy h (omega arith) (λ h₂ e h₃ k b. room_step (after o m h₂) e b)

  -- a fitted panel keeps its number of boards
  boards_step : (s : State L) (e : Event L) (n : ℕ) → 0 < n → s.boards ≡ n → (step o s e).boards ≡ n
  boards_step s e n l k = step_cases o (λ u. u.boards ≡ n) s e k (go e)
    where
      go : (e : Event L) → refusal s e ≡ None → (change o s e).boards ≡ n
      go (fit i t) h = let c = ltb-false 0 s.boards (none_fits (table s (fit i t)) h).0 in absurd (omega arith)
      go (propose p v) h = k
      go (phase x i) h = k
      go (verdict p) h = k

  boards_run : (s : State L) (h : List (Event L)) (n : ℕ) → 0 < n → s.boards ≡ n → (run o s h).boards ≡ n
  boards_run s [] n l k = k
  boards_run s (e ∷ h) n l k = boards_run (step o s e) h n l (boards_step s e n l k)

  -- a verdict is kept by every call
  kept_step : (s : State L) (e : Event L) (q : ℕ) (r : Slip L) → Roomy s → q < s.boards → at s.slots q 9 ≡ Some r → at (step o s e).slots q 9 ≡ Some r
  kept_step s e q r b l k = step_cases o (λ u. at u.slots q 9 ≡ Some r) s e k (go e)
    where
      go : (e : Event L) → refusal s e ≡ None → at (change o s e).slots q 9 ≡ Some r
      go (fit n t) h = let c = ltb-false 0 s.boards (none_fits (table s (fit n t)) h).0 in absurd (omega arith)
      go (propose p v) h = get_or-set_other s.slots (10 * p + 0) (10 * q + 9) (Some (slip v 0)) None (omega arith) ∙ k
      go (phase x i) h = let a = (allowed s x i h).room in verdict_at o s.boards s.faults (s.phases + 1) x s.slots (omega arith) (omega arith) b q l ∙ ap (λ u. or_else u (with_phase (s.phases + 1) (enough o s.boards (2 * s.faults + 1) (s.phases + 1) (estimate_row o s.boards s.faults (s.phases + 1) x s.slots q)))) k
      go (verdict p) h = k

  kept_run : (s : State L) (h : List (Event L)) (q : ℕ) (r : Slip L) → Roomy s → q < s.boards → at s.slots q 9 ≡ Some r → at (run o s h).slots q 9 ≡ Some r
  kept_run s [] q r b l k = k
  kept_run s (e ∷ h) q r b l k =
      let n = boards_step s e s.boards (omega arith) refl in
      kept_run (step o s e) h q r (room_step s e b) (omega arith) (kept_step s e q r b l k)

  pub lasting : (m : List (Slot L)) (h more : List (Event L)) (q : ℕ) (r : Slip L) → HoldsSlip o m h q r → HoldsSlip o m (h ++ more) q r
  lasting m h more q r e =
      let l : q < (after o m h).boards = e.0 in
      let k = kept_run (after o m h) more q r (room m h) l e.1 in
      let d : after o m (h ++ more) ≡ run o (after o m h) more = run_append o (new m) h more in
      let n : (after o m (h ++ more)).boards ≡ (after o m h).boards = ap (λ u. u.boards) d ∙ boards_run (after o m h) more (after o m h).boards (omega arith) refl in
      (omega arith, ap (λ u. at u.slots q 9) d ∙ k)

  -- the exchange of an accepted phase
  abbrev pub Trusted : (ℕ → Bool) → Exchange (Slip L) → Type 0
  Trusted bad x = Keeps x × ((q : ℕ) → q < x.boards → x.bad q ≡ bad q) × (count bad x.boards ≤ x.faults)

  -- what holds between calls
  pub record Sane (bad : ℕ → Bool) (s : State L) : Type 0 where
    pub fitting : 0 < s.boards → fits s.boards s.faults ≡ true
    pub room : Roomy s
    pub safe : Safe o s.boards s.faults bad s.phases (at s.slots)

  -- before the first phase
  safe_early : (n t : ℕ) (bad : ℕ → Bool) (F : ℕ) (slot : ℕ → ℕ → Slot L) → ((q : ℕ) → Sound n bad q → (s : Slip L) → slot q 0 ≡ Some s → s.phase ≡ 0) → ((q : ℕ) → Sound n bad q → (s : Slip L) → slot q 9 ≡ Some s → ⊥) → Safe o n t bad F slot
  safe_early n t bad F slot zeros none = record {
    numbered = λ q fq s e. let z = zeros q fq s e in omega arith;
    quorum = λ q fq s e l. let z = zeros q fq s e in absurd (omega arith);
    locked = λ q fq s e. absurd (none q fq s e);
    agreed = λ p q fp fq s r a b. absurd (none p fp s a);
  }

  no_verdict : (n t : ℕ) (bad : ℕ → Bool) (F : ℕ) (slot : ℕ → ℕ → Slot L) → Safe o n t bad F slot → F ≤ 0 → (q : ℕ) → Sound n bad q → (s : Slip L) → slot q 9 ≡ Some s → ⊥
  no_verdict n t bad F slot S z q fq s e =
      let K = S.locked q fq s e in
      let h = K.holders in
      let b = some_board (λ r. not (bad r) && keeps_to o s.label s.phase (slot r 0)) n (omega arith) in
      let k = keeper T n bad s.label s.phase b.0 (slot b.0 0) b.1 b.2 in
      let m : k.1.0.phase ≤ F = S.numbered b.0 k.0 k.1.0 k.1.1 in
      let l : s.phase ≤ k.1.0.phase = k.1.3 in
      let la = K.late in
      omega arith

  -- the slots after a proposal
  module _ (s : State L) (q : ℕ) (v : L) (lq : q < s.boards) (R : Roomy s) where
    abbrev proposed_slots : List (Slot L)
    proposed_slots = set s.slots (10 * q + 0) (Some (slip v 0))

    proposal_other : (p k : ℕ) → k < 10 → 1 ≤ k → get_or proposed_slots (10 * p + k) None ≡ at s.slots p k
    proposal_other p k a b = get_or-set_other s.slots (10 * q + 0) (10 * p + k) (Some (slip v 0)) None (omega arith)

    proposal_here : get_or proposed_slots (10 * q + 0) None ≡ Some (slip v 0)
    proposal_here = get_or-set_same s.slots (10 * q + 0) (Some (slip v 0)) None (omega arith)

    proposal_from : (p : ℕ) (r : Slip L) → get_or proposed_slots (10 * p + 0) None ≡ Some r → ((p ≡ q) × (r ≡ slip v 0)) ⊎ (at s.slots p 0 ≡ Some r)
    proposal_from p r h = go (cases_eq p q)
      where
        go : (p ≡ q) ⊎ (p ≡ q → ⊥) → ((p ≡ q) × (r ≡ slip v 0)) ⊎ (at s.slots p 0 ≡ Some r)
        go (inl e) = inl (e, some_inj r (slip v 0) (sym h ∙ (ap (λ u. get_or proposed_slots (10 * u + 0) None) e ∙ proposal_here)))
        go (inr e) = inr (sym (get_or-set_other s.slots (10 * q + 0) (10 * p + 0) (Some (slip v 0)) None (λ d. e (omega arith))) ∙ h)

  sane_step : (bad : ℕ → Bool) (s : State L) (e : Event L) → Sane bad s → ((x : Exchange (Slip L)) (l : Lengths) → e ≡ phase x l → refusal s e ≡ None → Trusted bad x) → Sane bad (step o s e)
  sane_step bad s e S trust = step_cases o (Sane bad) s e S (go e trust)
    where
      room_on : (e : Event L) → refusal s e ≡ None → Roomy (change o s e)
      room_on e h = subst Roomy (step_accepted o s e h) (room_step s e S.room)

      go : (e : Event L) → ((x : Exchange (Slip L)) (l : Lengths) → e ≡ phase x l → refusal s e ≡ None → Trusted bad x) → refusal s e ≡ None → Sane bad (change o s e)
      go (fit n t) trust h = record {
        fitting = λ l. not-false _ (none_fits (table s (fit n t)) h).1.0;
        room = room_on (fit n t) h;
        safe = safe_early n t bad 0 _ (λ q fq r k. let l = fq.0 in absurd (none≢some r (sym (silent n s.slots (10 * q + 0) (omega arith)) ∙ k))) (λ q fq r k. let l = fq.0 in none≢some r (sym (silent n s.slots (10 * q + 9) (omega arith)) ∙ k));
      }
      go (propose q v) trust h = record {
        fitting = S.fitting;
        room = room_on (propose q v) h;
        safe = safe_early s.boards s.faults bad s.phases _ zeros (λ p fp r k. no_verdict s.boards s.faults bad s.phases (at s.slots) S.safe first p fp r (sym (proposal_other s q v board S.room p 9 (omega arith) (omega arith)) ∙ k));
      }
        where
          board : q < s.boards
          board = leb-false _ _ (none_fits (table s (propose q v)) h).1.0

          first : s.phases ≤ 0
          first = ltb-false _ _ (none_fits (table s (propose q v)) h).1.1.0

          zero_of : (p : ℕ) → Sound s.boards bad p → (r : Slip L) → ((p ≡ q) × (r ≡ slip v 0)) ⊎ (at s.slots p 0 ≡ Some r) → r.phase ≡ 0
          zero_of p fp r (inl k) = ap (λ u. u.phase) k.1
          zero_of p fp r (inr k) = let a = S.safe.numbered p fp r k in let b = first in omega arith

          zeros : (p : ℕ) → Sound s.boards bad p → (r : Slip L) → get_or (set s.slots (10 * q + 0) (Some (slip v 0))) (10 * p + 0) None ≡ Some r → r.phase ≡ 0
          zeros p fp r k = zero_of p fp r (proposal_from s q v board S.room p r k)
      go (phase x l) trust h =
          let A = allowed s x l h in
          let C = trust x l refl h in
          let M = S.fitting A.some_boards in
          record {
            fitting = S.fitting;
            room = room_on (phase x l) h;
            safe = safe_on (the_phase T s.boards s.faults s.phases x s.slots bad A M S.room C.0 C.1 C.2) S.safe;
          }
      go (verdict q) trust h = S

  module _ (m : List (Slot L)) (bad : ℕ → Bool) where
    -- where the call is made in the history
    trusted : (h h₂ : List (Event L)) (e : Event L) (h₃ : List (Event L)) → Fair o m bad h → h ≡ h₂ ++ (e ∷ h₃) → (x : Exchange (Slip L)) (l : Lengths) → e ≡ phase x l → refusal (after o m h₂) e ≡ None → Trusted bad x
    trusted h h₂ e h₃ F k x l d r = F h₂ x l (h₃, subst (λ u. h ≡ h₂ ++ (u ∷ h₃)) d k, subst (λ u. refusal (after o m h₂) u ≡ None) d r)

    sane_new : Sane bad (new m)
    sane_new = record {
      fitting = λ l. absurd (omega arith);
      room = omega arith;
      safe = safe_early 0 0 bad 0 _ (λ q fq r k. absurd (none_below q fq.0)) (λ q fq r k. none_below q fq.0);
    }
      where
        none_below : (q : ℕ) → q < 0 → ⊥
        none_below q l = omega arith

    pub sane : (h : List (Event L)) → Fair o m bad h → Sane bad (after o m h)
    sane h F = history o m (Sane bad) h sane_new (λ h₂ e h₃ k S. sane_step bad (after o m h₂) e S (trusted h h₂ e h₃ F k))

    pub agreement : (h : List (Event L)) → Fair o m bad h → (p q : ℕ) (v w : L) → SoundIn o m bad h p → SoundIn o m bad h q → Holds o m h p v → Holds o m h q w → v ≡ w
    agreement h F p q v w fp fq a b = sym a.2 ∙ ((sane h F).safe.agreed p q fp fq a.0 b.0 a.1.1 b.1.1 ∙ b.2)

    -- a phase without losses after h
    pub termination : (h : List (Event L)) (x : Exchange (Slip L)) (l : Lengths) → Fair o m bad (h ++ (phase x l ∷ [])) → refusal (after o m h) (phase x l) ≡ None → Good o m h x → (q : ℕ) → SoundIn o m bad (h ++ (phase x l ∷ [])) q → (v : L) × Holds o m (h ++ (phase x l ∷ [])) q v
    termination h x l F r g q fq =
        let s = after o m h in
        let A = allowed s x l r in
        let C = F h x l ([], refl, r) in
        let S = sane h (λ h₁ y k a. F h₁ y k (a.0 ++ (phase x l ∷ []), ap (λ u. u ++ (phase x l ∷ [])) a.1 ∙ append_assoc h₁ (phase y k ∷ a.0) (phase x l ∷ []), a.2)) in
        let M = S.fitting A.some_boards in
        let e : after o m (h ++ (phase x l ∷ [])) ≡ phased o s x = after_snoc o m h (phase x l) ∙ step_accepted o s (phase x l) r in
        let b : (after o m (h ++ (phase x l ∷ []))).boards ≡ s.boards = ap (λ u. u.boards) e in
        let d = sure (the_phase T s.boards s.faults s.phases x s.slots bad A M S.room C.0 C.1 C.2) S.safe (lossless T s.boards s.faults s.phases x s.slots bad A M S.room C.0 C.1 C.2 S.safe g.0 g.1 g.2) q (subst (λ k. Sound k bad q) b fq) in
        (d.0.label, (d.0, (fq.0, ap (λ u. at u.slots q 9) e ∙ d.1), refl))

head_same : {A : Type 0} (a b : A) (l k : List A) → (a ∷ l) ≡ (b ∷ k) → a ≡ b
head_same a b l k e = cc

tail_same : {A : Type 0} (a b : A) (l k : List A) → (a ∷ l) ≡ (b ∷ k) → l ≡ k
tail_same a b l k e = cc

-- two calls in one list: the same, or one before the other
split_cases : {A : Type 0} (h₁ k₁ : List A) (a b : A) (h₂ k₂ : List A) → h₁ ++ (a ∷ h₂) ≡ k₁ ++ (b ∷ k₂) → ((h₁ ≡ k₁) × (a ≡ b)) ⊎ (((m : List A) × (k₁ ≡ h₁ ++ (a ∷ m))) ⊎ ((m : List A) × (h₁ ≡ k₁ ++ (b ∷ m))))
split_cases [] [] a b h₂ k₂ e = inl (refl, head_same a b h₂ k₂ e)
split_cases [] (d ∷ k₁) a b h₂ k₂ e = inr (inl (k₁, ap (λ u. u ∷ k₁) (sym (head_same a d h₂ (k₁ ++ (b ∷ k₂)) e))))
split_cases (c ∷ h₁) [] a b h₂ k₂ e = inr (inr (h₁, ap (λ u. u ∷ h₁) (head_same c b (h₁ ++ (a ∷ h₂)) k₂ e)))
split_cases (c ∷ h₁) (d ∷ k₁) a b h₂ k₂ e = go (head_same c d _ _ e) (split_cases h₁ k₁ a b h₂ k₂ (tail_same c d _ _ e))
  where
    go : c ≡ d → ((h₁ ≡ k₁) × (a ≡ b)) ⊎ (((m : List _) × (k₁ ≡ h₁ ++ (a ∷ m))) ⊎ ((m : List _) × (h₁ ≡ k₁ ++ (b ∷ m)))) → (((c ∷ h₁) ≡ (d ∷ k₁)) × (a ≡ b)) ⊎ (((m : List _) × ((d ∷ k₁) ≡ (c ∷ h₁) ++ (a ∷ m))) ⊎ ((m : List _) × ((c ∷ h₁) ≡ (d ∷ k₁) ++ (b ∷ m))))
    go p (inl q) = inl (ap (λ u. u ∷ h₁) p ∙ ap (λ u. d ∷ u) q.0, q.1)
    go p (inr (inl q)) = inr (inl (q.0, ap (λ u. u ∷ k₁) (sym p) ∙ ap (λ u. c ∷ u) q.1))
    go p (inr (inr q)) = inr (inr (q.0, ap (λ u. u ∷ h₁) p ∙ ap (λ u. d ∷ u) q.1))

module _ {L : Type 0} (o : Comparison L) (T : Total o) where
  -- a board that has an estimate keeps one
  has_estimate_step : (s : State L) (e : Event L) (q : ℕ) → Roomy s → q < s.boards → is_some (at s.slots q 0) ≡ true → is_some (at (step o s e).slots q 0) ≡ true
  has_estimate_step s e q b l k = step_cases o (λ u. is_some (at u.slots q 0) ≡ true) s e k (go e)
    where
      else_some : (x y : Slot L) → is_some y ≡ true → is_some (or_else x y) ≡ true
      else_some None y e = e
      else_some (Some a) y e = refl

      go : (e : Event L) → refusal s e ≡ None → is_some (at (change o s e).slots q 0) ≡ true
      go (fit n t) h = let c = ltb-false 0 s.boards (none_fits (table s (fit n t)) h).0 in absurd (omega arith)
      go (propose p v) h = by (cases_eq q p)
        where
          board : p < s.boards
          board = leb-false _ _ (none_fits (table s (propose p v)) h).1.0

          by : (q ≡ p) ⊎ (q ≡ p → ⊥) → is_some (get_or (set s.slots (10 * p + 0) (Some (slip v 0))) (10 * q + 0) None) ≡ true
          by (inl e) = ap (λ u. is_some (get_or (set s.slots (10 * p + 0) (Some (slip v 0))) (10 * u + 0) None)) e ∙ ap is_some (proposal_here o T s p v board b)
          by (inr e) = ap is_some (get_or-set_other s.slots (10 * p + 0) (10 * q + 0) (Some (slip v 0)) None (λ d. e (omega arith))) ∙ k
      go (phase x i) h = let a = (allowed s x i h).room in ap is_some (estimate_at o s.boards s.faults (s.phases + 1) x s.slots (omega arith) (omega arith) b q l) ∙ else_some _ (at s.slots q 0) k
      go (verdict p) h = k

  has_estimate_run : (s : State L) (h : List (Event L)) (q : ℕ) → Roomy s → q < s.boards → is_some (at s.slots q 0) ≡ true → is_some (at (run o s h).slots q 0) ≡ true
  has_estimate_run s [] q b l k = k
  has_estimate_run s (e ∷ h) q b l k =
      let n = boards_step o T s e s.boards (omega arith) refl in
      has_estimate_run (step o s e) h q (room_step o T s e b) (omega arith) (has_estimate_step s e q b l k)

  module _ (m : List (Slot L)) where
    -- a board proposes once
    proposes_once : (h₁ h₂ : List (Event L)) (q : ℕ) (v w : L) → refusal (after o m h₁) (propose q v) ≡ None → refusal (after o m (h₁ ++ (propose q v ∷ h₂))) (propose q w) ≡ None → ⊥
    proposes_once h₁ h₂ q v w a b =
        let s = after o m h₁ in
        let board : q < s.boards = leb-false _ _ (none_fits (table s (propose q v)) a).1.0 in
        let e : after o m (h₁ ++ (propose q v ∷ h₂)) ≡ run o (step o s (propose q v)) h₂ = run_append o (new m) h₁ (propose q v ∷ h₂) in
        let c : is_some (at (step o s (propose q v)).slots q 0) ≡ true = ap (λ u. is_some (at u.slots q 0)) (step_accepted o s (propose q v) a) ∙ ap is_some (proposal_here o T s q v board (room o T m h₁)) in
        let n = boards_step o T s (propose q v) s.boards (omega arith) refl in
        let d = has_estimate_run (step o s (propose q v)) h₂ q (room_step o T s (propose q v) (room o T m h₁)) (omega arith) c in
        let f = (none_fits (table (after o m (h₁ ++ (propose q v ∷ h₂))) (propose q w)) b).1.1.1.0 in
        true≢false (sym d ∙ (ap (λ u. is_some (at u.slots q 0)) (sym e) ∙ f))

    same_proposal : (h h₁ h₂ : List (Event L)) (q : ℕ) (v w : L) → h ≡ h₁ ++ (propose q w ∷ h₂) → refusal (after o m h₁) (propose q w) ≡ None → Proposed o m h q v → w ≡ v
    same_proposal h h₁ h₂ q v w k r P = go (split_cases h₁ P.0 (propose q w) (propose q v) h₂ P.1.0 (sym k ∙ P.1.1))
      where
        label_at : Event L → L
        label_at (fit a b) = w
        label_at (propose p u) = u
        label_at (phase x l) = w
        label_at (verdict p) = w

        go : ((h₁ ≡ P.0) × (propose q w ≡ propose q v)) ⊎ (((k : List (Event L)) × (P.0 ≡ h₁ ++ (propose q w ∷ k))) ⊎ ((k : List (Event L)) × (h₁ ≡ P.0 ++ (propose q v ∷ k)))) → w ≡ v
        go (inl a) = ap label_at a.1
        go (inr (inl a)) = absurd (proposes_once h₁ a.0 q w v r (subst (λ u. refusal (after o m u) (propose q v) ≡ None) a.1 P.1.2))
        go (inr (inr a)) = absurd (proposes_once P.0 a.0 q v w P.1.2 (subst (λ u. refusal (after o m u) (propose q w) ≡ None) a.1 r))

  valid_step : (bad : ℕ → Bool) (s : State L) (e : Event L) (v : L) → Sane o T bad s → Valid s.boards bad s.phases (at s.slots) v → ((x : Exchange (Slip L)) (l : Lengths) → e ≡ phase x l → refusal s e ≡ None → Trusted o T bad x) → ((q : ℕ) (w : L) → e ≡ propose q w → refusal s e ≡ None → Sound s.boards bad q → w ≡ v) → Valid (step o s e).boards bad (step o s e).phases (at (step o s e).slots) v
  valid_step bad s e v S V trust common = step_cases o (λ u. Valid u.boards bad u.phases (at u.slots) v) s e V (go e trust common)
    where
      go : (e : Event L) → ((x : Exchange (Slip L)) (l : Lengths) → e ≡ phase x l → refusal s e ≡ None → Trusted o T bad x) → ((q : ℕ) (w : L) → e ≡ propose q w → refusal s e ≡ None → Sound s.boards bad q → w ≡ v) → refusal s e ≡ None → Valid (change o s e).boards bad (change o s e).phases (at (change o s e).slots) v
      go (fit n t) trust common h = record {
        estimates = λ q fq r k. let l = fq.0 in absurd (none≢some r (sym (silent n s.slots (10 * q + 0) (omega arith)) ∙ k));
        picks = λ g q a b fq r k. absurd (omega arith);
        verdicts = λ q fq r k. let l = fq.0 in absurd (none≢some r (sym (silent n s.slots (10 * q + 9) (omega arith)) ∙ k));
      }
      go (propose q w) trust common h = record {
        estimates = λ p fp r k. by p fp r (proposal_from o T s q w board S.room p r k);
        picks = λ g p a b fp r k. absurd (let c = first in omega arith);
        verdicts = λ p fp r k. V.verdicts p fp r (sym (proposal_other o T s q w board S.room p 9 (omega arith) (omega arith)) ∙ k);
      }
        where
          board : q < s.boards
          board = leb-false _ _ (none_fits (table s (propose q w)) h).1.0

          first : s.phases ≤ 0
          first = ltb-false _ _ (none_fits (table s (propose q w)) h).1.1.0

          by : (p : ℕ) → Sound s.boards bad p → (r : Slip L) → ((p ≡ q) × (r ≡ slip w 0)) ⊎ (at s.slots p 0 ≡ Some r) → r.label ≡ v
          by p fp r (inl k) = ap (λ u. u.label) k.1 ∙ common q w refl h (subst (λ u. Sound s.boards bad u) k.0 fp)
          by p fp r (inr k) = V.estimates p fp r k
      go (phase x l) trust common h =
          let A = allowed s x l h in
          let C = trust x l refl h in
          let M = S.fitting A.some_boards in
          valid_on (the_phase T s.boards s.faults s.phases x s.slots bad A M S.room C.0 C.1 C.2) S.safe v V
      go (verdict q) trust common h = V

  module _ (m : List (Slot L)) (bad : ℕ → Bool) where
    pub validity : (h : List (Event L)) → Fair o m bad h → (v : L) → ((q : ℕ) → SoundIn o m bad h q → Proposed o m h q v) → (p : ℕ) (w : L) → SoundIn o m bad h p → Holds o m h p w → w ≡ v
    validity h F v all p w fp k =
        let V = history o m (λ s. Sane o T bad s × Valid s.boards bad s.phases (at s.slots) v) h start on in
        sym k.2 ∙ V.1.verdicts p fp k.0 k.1.1
      where
        none_below : (q : ℕ) → q < 0 → ⊥
        none_below q l = omega arith

        start : Sane o T bad (new m) × Valid 0 bad 0 (at m) v
        start = (
          sane_new o T m bad,
          record {
            estimates = λ q fq r k. absurd (none_below q fq.0);
            picks = λ g q a b fq r k. absurd (none_below q fq.0);
            verdicts = λ q fq r k. absurd (none_below q fq.0);
          },
        )

        stays : (h₂ : List (Event L)) (e : Event L) (h₃ : List (Event L)) (q : ℕ) → h ≡ h₂ ++ (e ∷ h₃) → q < (after o m h₂).boards → q < (after o m h).boards
        stays h₂ e h₃ q k l =
            let a : (after o m h).boards ≡ (run o (after o m h₂) (e ∷ h₃)).boards = ap (λ u. (after o m u).boards) k ∙ ap (λ u. u.boards) (run_append o (new m) h₂ (e ∷ h₃)) in
            let b : (run o (after o m h₂) (e ∷ h₃)).boards ≡ (after o m h₂).boards = boards_run o T (after o m h₂) (e ∷ h₃) (after o m h₂).boards (omega arith) refl in
            omega arith

        on : (h₂ : List (Event L)) (e : Event L) (h₃ : List (Event L)) → h ≡ h₂ ++ (e ∷ h₃) → Sane o T bad (after o m h₂) × Valid (after o m h₂).boards bad (after o m h₂).phases (at (after o m h₂).slots) v → Sane o T bad (step o (after o m h₂) e) × Valid (step o (after o m h₂) e).boards bad (step o (after o m h₂) e).phases (at (step o (after o m h₂) e).slots) v
        on h₂ e h₃ k V =
            let C = trusted o T m bad h h₂ e h₃ F k in
            (sane_step o T bad (after o m h₂) e V.0 C, valid_step bad (after o m h₂) e v V.0 V.1 C (λ q w d r fq. same_proposal m h h₂ h₃ q v w (subst (λ u. h ≡ h₂ ++ (u ∷ h₃)) d k) (subst (λ u. refusal (after o m h₂) u ≡ None) d r) (all q (stays h₂ e h₃ q k fq.0, fq.1))))

  pub settled : (m : List (Slot L)) → Settled o m
  settled m bad = record {
    agreement = agreement o T m bad;
    lasting = lasting o T m;
    validity = validity m bad;
    termination = termination o T m bad;
  }
