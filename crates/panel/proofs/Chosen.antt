-- What the choice and the counts of a board tell of the rows that it heard, and when there is one.
use Rattle.std.proofs.Common.{◌≡◌, ℕ, ◌+◌, ◌-◌, ◌<◌, ◌≤◌, Bool, true, false, cond, ◌&&◌, ◌||◌, eqb, ltb, leb, ◌⊎◌, is_some, Some, None, refl, ap, ◌∙◌, subst, inl, inr, arith}
use Rattle.std.proofs.lemmas.Bool.{and_parts, and_from, eq-eqb, ltb-true, lt-ltb, leb-true, le-leb, false≢true, cases_lt}
use Rattle.exchanges.specs.Boards.{count}
use Rattle.panel.specs.Slots.{Comparison, Slot, has_label, is_slip, label_of}
use Rattle.labels.specs.declared.slip.Slip.{Slip}
use Rattle.panel.specs.Phase.{Row, only, supports, unphased, stands, ahead, later, wins_often, times, standing, most_often, fallback, choice_of, heard_enough, enough}
use Rattle.labels.specs.Order.{Total}
use Rattle.panel.proofs.Counts.{count_same, some_board}
use Rattle.panel.proofs.Slips.{Strict, smaller_strict, slip, none≢some, some_inj, is_true, has_true, only_from, only_made, label_from}
use Rattle.panel.proofs.Rows.{best_from, best_some, best_most, best_same, ahead_up, ahead_down}

-- a claim of the row that stands
pub record Standing {L : Type 0} (o : Comparison L) (n t : ℕ) (claims : Row L) (picks : ℕ → Row L) (s : Slip L) : Type 0 where
  pub from : ℕ
  pub below : from < n
  pub is : claims from ≡ Some s
  pub late : 1 ≤ s.phase
  pub backed : n - t ≤ count (λ q. supports o s.label s.phase (claims q)) n
  pub picked : t + 1 ≤ count (λ q. is_slip o s.label s.phase (picks s.phase q)) n

-- the tie between labels heard equally often
pub often_strict : {L : Type 0} {o : Comparison L} → Total o → Strict (wins_often o)
often_strict = smaller_strict

module _ {L : Type 0} {o : Comparison L} (T : Total o) (n t : ℕ) (claims : Row L) (picks : ℕ → Row L) where
  abbrev backing : Slip L → ℕ
  backing s = count (λ q. supports o s.label s.phase (claims q)) n

  abbrev picking : Slip L → ℕ
  picking s = count (λ q. is_slip o s.label s.phase (picks s.phase q)) n

  pub stood : (s : Slip L) (q : ℕ) → q < n → claims q ≡ Some s → stands o n t claims picks s ≡ true → Standing o n t claims picks s
  stood s q l e h =
      let a = and_parts (ltb 0 s.phase) (leb (n - t) (backing s) && leb (t + 1) (picking s)) h in
      let b = and_parts (leb (n - t) (backing s)) (leb (t + 1) (picking s)) a.1 in
      record { from = q; below = l; is = e; late = ltb-true 0 s.phase a.0; backed = leb-true _ _ b.0; picked = leb-true _ _ b.1 }

  pub stood_test : (s : Slip L) → Standing o n t claims picks s → stands o n t claims picks s ≡ true
  stood_test s h =
      and_from (ltb 0 s.phase) (leb (n - t) (backing s) && leb (t + 1) (picking s)) (lt-ltb 0 s.phase h.late)
      (and_from (leb (n - t) (backing s)) (leb (t + 1) (picking s)) (le-leb _ _ h.backed) (le-leb _ _ h.picked))

  -- how often a slip's label was heard
  abbrev often : Slip L → ℕ
  often s = times o n claims s.label

  most : (r : Slip L) → most_often o n claims ≡ Some r → (u : L) → times o n claims u ≤ often r
  most r e u = go (cases_lt 0 (times o n claims u))
    where
      found : (q : ℕ) × (q < n) × (has_label o u (claims q) ≡ true) → times o n claims u ≤ often r
      found p =
          let k = has_true T u (claims p.0) p.2 in
          let m = best_most (ahead (wins_often o) often) claims often (ahead_up (often_strict T) often) (ahead_down (often_strict T) often) n r e p.0 k.0 p.1 k.1 in
          let z : often k.0 ≡ times o n claims u = ap (times o n claims) k.2 in
          omega arith

      go : (0 < times o n claims u) ⊎ (times o n claims u ≤ 0) → times o n claims u ≤ often r
      go (inl k) = found (some_board _ n k)
      go (inr k) = omega arith

  -- where the choice comes from
  abbrev pub Reason : L → Type 0
  Reason v = ((s : Slip L) × (s.label ≡ v) × Standing o n t claims picks s) ⊎ ((n - t ≤ count (λ q. unphased (claims q)) n) × ((u : L) → times o n claims u ≤ times o n claims v))

  pub choice_reason : (v : L) → choice_of o n t claims picks ≡ Some v → Reason v
  choice_reason v e = go (standing o n t claims picks) refl e
    where
      by_count : (b : Bool) → leb (n - t) (count (λ q. unphased (claims q)) n) ≡ b → label_of (cond b (most_often o n claims) None) ≡ Some v → Reason v
      by_count true k h =
          let p = label_from (most_often o n claims) v h in
          inr (leb-true _ _ k, λ u. subst (λ w. times o n claims u ≤ times o n claims w) p.2 (most p.0 p.1 u))
      by_count false k h = absurd (none≢some v h)

      go : (S : Slot L) → standing o n t claims picks ≡ S → label_of (cond (is_some S) S (fallback o n t claims)) ≡ Some v → Reason v
      go None k h = by_count (leb (n - t) (count (λ q. unphased (claims q)) n)) refl h
      go (Some s) k h =
          let p = best_from (later o) (λ q. only (stands o n t claims picks) (claims q)) n s k in
          let c = only_from (stands o n t claims picks) (claims p.0) s p.2 in
          inl (s, some_inj _ _ h, stood s p.0 p.1 c.0 c.1)

  -- there is a choice where a claim stands
  pub choice_standing : (s : Slip L) → Standing o n t claims picks s → (v : L) × (choice_of o n t claims picks ≡ Some v)
  choice_standing s h =
      let p = best_some (later o) (λ q. only (stands o n t claims picks) (claims q)) n h.from s h.below (only_made (stands o n t claims picks) (claims h.from) s h.is (stood_test s h)) in
      (p.0.label, ap (λ S. label_of (cond (is_some S) S (fallback o n t claims))) p.1)

  -- and where enough claims have number 0
  pub choice_unphased : 0 < n - t → n - t ≤ count (λ q. unphased (claims q)) n → (v : L) × (choice_of o n t claims picks ≡ Some v)
  choice_unphased pos h = go (standing o n t claims picks) refl
    where
      an : (x : Slot L) → unphased x ≡ true → (s : Slip L) × (x ≡ Some s)
      an None e = absurd (false≢true e)
      an (Some s) e = (s, refl)

      most_some : (r : Slip L) × (most_often o n claims ≡ Some r)
      most_some =
          let p = some_board (λ q. unphased (claims q)) n (omega arith) in
          let k = an (claims p.0) p.2 in
          best_some (ahead (wins_often o) often) claims n p.0 k.0 p.1 k.1

      go : (S : Slot L) → standing o n t claims picks ≡ S → (v : L) × (label_of (cond (is_some (standing o n t claims picks)) (standing o n t claims picks) (fallback o n t claims)) ≡ Some v)
      go None k = (most_some.0.label, ap (λ S. label_of (cond (is_some S) S (fallback o n t claims))) k ∙ (ap (λ b. label_of (cond b (most_often o n claims) None)) (le-leb _ _ h) ∙ ap label_of most_some.1))
      go (Some s) k = (s.label, ap (λ S. label_of (cond (is_some S) S (fallback o n t claims))) k)

-- the choice looks at nothing but the rows of the n boards, and at the picks of phases that the claims name
module _ {L : Type 0} {o : Comparison L} (T : Total o) (n t f : ℕ) (claims claims' : Row L) (picks picks' : ℕ → Row L) (early : (q : ℕ) (s : Slip L) → claims' q ≡ Some s → s.phase < f) (hc : (q : ℕ) → q < n → claims q ≡ claims' q) (hp : (v : L) (g q : ℕ) → 0 < g → g < f → q < n → is_slip o v g (picks g q) ≡ is_slip o v g (picks' g q)) where
  abbrev stands_at : Bool → ℕ → ℕ → Bool
  stands_at b k i = b && (leb (n - t) k && leb (t + 1) i)

  abbrev backing_of : Row L → Slip L → ℕ
  backing_of row s = count (λ q. supports o s.label s.phase (row q)) n

  abbrev picking_of : (ℕ → Row L) → Slip L → ℕ
  picking_of rows s = count (λ q. is_slip o s.label s.phase (rows s.phase q)) n

  pub choice_same : choice_of o n t claims picks ≡ choice_of o n t claims' picks'
  choice_same =
      ap (λ S. label_of (cond (is_some S) S (fallback o n t claims))) standing_same
      ∙ ap (λ F. label_of (cond (is_some (standing o n t claims' picks')) (standing o n t claims' picks') F)) fallback_same
    where
      picks_agree : (s : Slip L) → s.phase < f → (b : Bool) → ltb 0 s.phase ≡ b → stands_at b (backing_of claims' s) (picking_of picks s) ≡ stands_at b (backing_of claims' s) (picking_of picks' s)
      picks_agree s l false e = refl
      picks_agree s l true e = ap (stands_at true (backing_of claims' s)) (count_same _ (λ q. is_slip o s.label s.phase (picks' s.phase q)) n (λ q lq. hp s.label s.phase q (ltb-true 0 s.phase e) l lq))

      stands_same : (s : Slip L) → s.phase < f → stands o n t claims picks s ≡ stands o n t claims' picks' s
      stands_same s b =
          ap (λ k. stands_at (ltb 0 s.phase) k (picking_of picks s)) (count_same _ (λ q. supports o s.label s.phase (claims' q)) n (λ q l. ap (supports o s.label s.phase) (hc q l)))
          ∙ picks_agree s b (ltb 0 s.phase) refl

      only_same : (x : Slot L) → ((s : Slip L) → x ≡ Some s → s.phase < f) → only (stands o n t claims picks) x ≡ only (stands o n t claims' picks') x
      only_same None h = refl
      only_same (Some s) h = ap (λ b. cond b (Some s) None) (stands_same s (h s refl))

      standing_same : standing o n t claims picks ≡ standing o n t claims' picks'
      standing_same = best_same (later o) (later o) _ _ n (λ s r. refl) (λ q l. ap (only (stands o n t claims picks)) (hc q l) ∙ only_same (claims' q) (early q))

      times_same : (u : L) → times o n claims u ≡ times o n claims' u
      times_same u = count_same _ _ n (λ q l. ap (has_label o u) (hc q l))

      oftener_same : (s r : Slip L) → ahead (wins_often o) (λ s. times o n claims s.label) s r ≡ ahead (wins_often o) (λ s. times o n claims' s.label) s r
      oftener_same s r =
          ap (λ k. ltb k (times o n claims s.label) || (eqb k (times o n claims s.label) && wins_often o s.label r.label)) (times_same r.label)
          ∙ ap (λ k. ltb (times o n claims' r.label) k || (eqb (times o n claims' r.label) k && wins_often o s.label r.label)) (times_same s.label)

      fallback_same : fallback o n t claims ≡ fallback o n t claims'
      fallback_same =
          ap (λ k. cond (leb (n - t) k) (most_often o n claims) None) (count_same _ (λ q. unphased (claims' q)) n (λ q l. ap unphased (hc q l)))
          ∙ ap (λ S. cond (leb (n - t) (count (λ q. unphased (claims' q)) n)) S None) (best_same _ _ claims claims' n oftener_same hc)

module _ {L : Type 0} {o : Comparison L} (T : Total o) (n k f : ℕ) (row : Row L) where
  -- the label was heard often enough
  pub enough_from : (v : L) → enough o n k f row ≡ Some v → k ≤ count (λ q. is_slip o v f (row q)) n
  unfolding enough
  enough_from v e =
      let p = label_from _ v e in
      let b = best_from (later o) (λ q. only (heard_enough o n k f row) (row q)) n p.0 p.1 in
      let c = only_from (heard_enough o n k f row) (row b.0) p.0 b.2 in
      let a = and_parts (eqb p.0.phase f) (leb k (count (λ q. is_slip o p.0.label f (row q)) n)) c.1 in
      subst (λ u. k ≤ count (λ q. is_slip o u f (row q)) n) p.2 (leb-true _ _ a.1)

  -- some label was, where this one was
  pub enough_some : (v : L) → 0 < k → k ≤ count (λ q. is_slip o v f (row q)) n → (w : L) × (enough o n k f row ≡ Some w)
  unfolding enough
  enough_some v pos h =
      let p = some_board (λ q. is_slip o v f (row q)) n (omega arith) in
      let e = is_true T v f (row p.0) p.2 in
      let b = best_some (later o) (λ q. only (heard_enough o n k f row) (row q)) n p.0 (slip v f) p.1 (only_made (heard_enough o n k f row) (row p.0) (slip v f) e (and_from (eqb f f) (leb k (count (λ q. is_slip o v f (row q)) n)) (eq-eqb f f refl) (le-leb _ _ h))) in
      (b.0.label, ap label_of b.1)
