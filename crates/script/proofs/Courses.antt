-- Lists of calls on a panel, one after another.
use Rattle.std.proofs.lemmas.Grind.{common_steps}
use Rattle.std.proofs.Common.{◌≡◌, ℕ, zero, suc, ◌+◌, ◌-◌, ◌<◌, ◌≤◌, Bool, true, false, cond, ltb, List, [], ◌∷◌, ◌++◌, map, length, get_or, take, drop, set, is_some, IsErrAnd, Some, None, Ok, Err, Option, Result, sym, refl, ap, ◌∙◌, subst, append_assoc, append-nil, arith}
use Rattle.std.proofs.lemmas.List.{take_more_set, take_more, take-append-drop, length-take-le}
use Rattle.std.proofs.lemmas.Bool.{cond-false, le-ltb}
use Rattle.std.proofs.lemmas.List.FromFn.{length-map-range_with_len, map-range_with_len_more}
use Rattle.std.specs.List.{range_with_len}
use Rattle.std.specs.Option.{option_or}
use Rattle.labels.specs.Refusals.{row}
use Rattle.labels.specs.declared.refusal.Refusal.{Refusal}
use Rattle.labels.specs.declared.slip.Slip.{Slip}
use Rattle.exchanges.specs.Exchange.{Exchange}
use Rattle.exchanges.specs.declared.tree.Tree.{Tree}
use Rattle.exchanges.specs.Trees.{tree_exchange}
use Rattle.labels.specs.Slip.{same_slip}
use Rattle.panel.specs.Slots.{Slot, Comparison, label_of}
use Rattle.panel.specs.Panel.{at, verdict_place, State, Event, after, Lengths, new, change, fit, propose, phase, refusal, step, run, sizes, asks, after_asks}
use Rattle.script.specs.declared.model.Header.{Header}
use Rattle.script.specs.declared.script_plane.ScriptBackplane.{ScriptBackplane}
use Rattle.script.specs.Header.{bad_map}
use Rattle.script.specs.ScriptAnswers.{script}
use Rattle.script.specs.ScriptPlane.{script_plane}
use Rattle.script.specs.Memory.{Lists, laid}
use Rattle.script.specs.Runs.{first_refusal, Ran, verdicts, script_trees, borne, opening, proposing, phases, Went}

pub both_none : (a b : Option ℕ) → option_or a b ≡ None → (a ≡ None) × (b ≡ None)
both_none None b e = (refl, e)
both_none (Some x) b e = absurd (cc)

pub first_some : (a b c : Option ℕ) (r : ℕ) → option_or a b ≡ Some r → (b ≡ Some r → c ≡ Some r) → option_or a c ≡ Some r
first_some None b c r e f = f e
first_some (Some x) b c r e f = e

-- what follows a first list
pub record Begins {A : Type 0} (h k : List A) : Type 0 where
  pub rest : List A
  pub joins : k ≡ h ++ rest

module _ {L : Type 0} (o : Comparison L) where
  pub run_append : (s : State L) (h k : List (Event L)) → run o s (h ++ k) ≡ run o (run o s h) k
  run_append s [] k = refl
  run_append s (e ∷ h) k = run_append (step o s e) h k

  pub refused_append : (s : State L) (h k : List (Event L)) → first_refusal o s h ≡ None → first_refusal o s (h ++ k) ≡ first_refusal o (run o s h) k
  refused_append s [] k e = refl
  refused_append s (x ∷ h) k e =
      let b = both_none (refusal s x) (first_refusal o (step o s x) h) e in
      ap (λ a. option_or a (first_refusal o (step o s x) (h ++ k))) b.0 ∙ refused_append (step o s x) h k b.1

  pub refused_first : (s : State L) (h k : List (Event L)) (r : ℕ) → first_refusal o s h ≡ Some r → first_refusal o s (h ++ k) ≡ Some r
  refused_first s [] k r e = absurd (cc)
  refused_first s (x ∷ h) k r e = first_some (refusal s x) (first_refusal o (step o s x) h) (first_refusal o (step o s x) (h ++ k)) r e (refused_first (step o s x) h k r)

  -- the calls h were all accepted, and made s' of s
  abbrev pub Going : State L → List (Event L) → State L → Type 0
  Going s h s' = (first_refusal o s h ≡ None) × (s' ≡ run o s h)

  pub going_on : (s : State L) (h k : List (Event L)) (s' s'' : State L) → Going s h s' → Going s' k s'' → Going s (h ++ k) s''
  going_on s h k s' s'' g e =
      (refused_append s h k g.0 ∙ (ap (λ u. first_refusal o u k) (sym g.1) ∙ e.0), e.1 ∙ (ap (λ u. run o u k) g.1 ∙ sym (run_append s h k)))

  pub stops : (s : State L) (h k : List (Event L)) (s' : State L) (r : ℕ) → Going s h s' → first_refusal o s' k ≡ Some r → first_refusal o s (h ++ k) ≡ Some r
  stops s h k s' r g e = refused_append s h k g.0 ∙ (ap (λ u. first_refusal o u k) (sym g.1) ∙ e)

  pub one_more : (s : State L) (h h⁺ : List (Event L)) (e : Event L) (s' s'' : State L) → Going s h s' → h⁺ ≡ h ++ (e ∷ []) → refusal s' e ≡ None → s'' ≡ step o s' e → Going s h⁺ s''
  one_more s h h⁺ e s' s'' g j a n =
      let w = going_on s h (e ∷ []) s' s'' g (ap (λ u. option_or u None) a, n) in
      (ap (first_refusal o s) j ∙ w.0, w.1 ∙ ap (run o s) (sym j))

  pub one_stops : (s : State L) (h h⁺ all : List (Event L)) (e : Event L) (s' : State L) (r : ℕ) → Going s h s' → h⁺ ≡ h ++ (e ∷ []) → Begins h⁺ all → refusal s' e ≡ Some r → first_refusal o s all ≡ Some r
  one_stops s h h⁺ all e s' r g j b a =
      ap (first_refusal o s) b.joins ∙ refused_first s h⁺ b.rest r (ap (first_refusal o s) j ∙ stops s h (e ∷ []) s' r g (ap (λ u. option_or u None) a))

  pub went_err : {U : Type 0} (s : State L) (h : List (Event L)) (s' : State L) (r : Result U Refusal) (e : Refusal) → IsErrAnd r (λ y. y ≡ e) → first_refusal o s h ≡ Some (row e) → Went o s h s' r
  went_err s h s' (Ok u) e b f = absurd b
  went_err s h s' (Err y) e b f = f ∙ ap (λ z. Some (row z)) (sym b)

  phases_past : (l : Lengths) (s : State L) (x : Exchange (Slip L)) (i d : ℕ) → Begins (phases o l s x i).calls (phases o l s x (d + i)).calls
  phases_past l s x i zero =
      let z : zero + i ≡ i = omega arith in
      record { rest = []; joins = ap (λ k. (phases o l s x k).calls) z ∙ sym (append-nil (phases o l s x i).calls) }
  phases_past l s x i (suc d) =
      let z : suc d + i ≡ suc (d + i) = omega arith in
      let b = phases_past l s x i d in
      let e = phase (phases o l s x (d + i)).exchange l ∷ [] in
      record { rest = b.rest ++ e; joins = ap (λ k. (phases o l s x k).calls) z ∙ (ap (λ h. h ++ e) b.joins ∙ append_assoc (phases o l s x i).calls b.rest e) }

  -- fewer phases come first among more
  pub phases_on : (l : Lengths) (s : State L) (x : Exchange (Slip L)) (i n : ℕ) → i ≤ n → Begins (phases o l s x i).calls (phases o l s x n).calls
  phases_on l s x i n le =
      let z : n ≡ (n - i) + i = omega arith in
      let b = phases_past l s x i (n - i) in
      record { rest = b.rest; joins = ap (λ k. (phases o l s x k).calls) z ∙ b.joins }

pub proposing_append : {L : Type 0} (q : ℕ) (xs ys : List L) → proposing q (xs ++ ys) ≡ proposing q xs ++ proposing (q + length xs) ys
proposing_append q [] ys = ap (λ k. proposing k ys) (omega arith)
proposing_append q (x ∷ xs) ys = ap (λ l. propose q x ∷ l) (proposing_append (q + 1) xs ys ∙ ap (λ k. proposing (q + 1) xs ++ proposing k ys) (omega arith))

-- one proposal more
pub proposing_more : {L : Type 0} (vs : List L) (i : ℕ) (v : L) → i < length vs → v ≡ get_or vs i v → proposing 0 (take (i + 1) vs) ≡ proposing 0 (take i vs) ++ (propose i v ∷ [])
proposing_more vs i v lt is =
    let long : 0 + length (take i vs) ≡ i = omega (arith, length-take-le i vs (omega arith)) in
    ap (proposing 0) (take_more vs i v lt) ∙ (proposing_append 0 (take i vs) (get_or vs i v ∷ []) ∙ ap (λ k. proposing 0 (take i vs) ++ (propose k (get_or vs i v) ∷ [])) long ∙ ap (λ u. proposing 0 (take i vs) ++ (propose i u ∷ [])) (sym is))

-- the first proposals come first among all
pub proposing_on : {L : Type 0} (vs : List L) (i : ℕ) → Begins (proposing 0 (take i vs)) (proposing 0 vs)
proposing_on vs i = record { rest = proposing (0 + length (take i vs)) (drop i vs); joins = ap (proposing 0) (sym (take-append-drop i vs)) ∙ proposing_append 0 (take i vs) (drop i vs) }

-- one verdict more
pub told_more : {X : Type 0} (f : ℕ → X) (xs : List X) (k : ℕ) (v : X) → k < length xs → take k xs ≡ map f (range_with_len 0 k) → v ≡ f k → take (k + 1) (set xs k v) ≡ map f (range_with_len 0 (k + 1))
told_more f xs k v lt e is =
    take_more_set xs k v lt ∙ ap (λ l. l ++ (v ∷ [])) e ∙ ap (λ u. map f (range_with_len 0 k) ++ (u ∷ [])) is ∙ sym (map-range_with_len_more f 0 k k (omega arith))

module _ {L : Type 0} (o : Comparison L) (h p w h' p' w' : ℕ) (eh : h' ≡ h) (ep : p' ≡ p) (ew : w' ≡ w) (s : State L) (x : Exchange (Slip L)) (i : ℕ) where
  -- the first i phases have gone well, and left the panel q and the exchange y
  abbrev Stands : State L → Exchange (Slip L) → Type 0
  Stands q y = Going o s (phases o (sizes h p w) s x i).calls q × (y ≡ (phases o (sizes h p w) s x i).exchange)

  same_call : (y : Exchange (Slip L)) → y ≡ (phases o (sizes h p w) s x i).exchange → phase y (sizes h' p' w') ≡ phase (phases o (sizes h p w) s x i).exchange (sizes h p w)
  same_call y e = λ k. phase (e k) (sizes (eh k) (ep k) (ew k))

  next_calls : (phases o (sizes h p w) s x (i + 1)).calls ≡ (phases o (sizes h p w) s x i).calls ++ (phase (phases o (sizes h p w) s x i).exchange (sizes h p w) ∷ [])
  next_calls = grind (arith, common_steps)

  pub phase_more : (q : State L) (y : Exchange (Slip L)) (q'' : State L) (y'' : Exchange (Slip L)) → Stands q y → refusal q (phase y (sizes h' p' w')) ≡ None → q'' ≡ step o q (phase y (sizes h' p' w')) → y'' ≡ after_asks y (asks o q.boards q.faults (q.phases + 1) y q.slots) → Going o s (phases o (sizes h p w) s x (i + 1)).calls q'' × (y'' ≡ (phases o (sizes h p w) s x (i + 1)).exchange)
  phase_more q y q'' y'' g a n e =
      let on : i + 1 ≡ suc i = omega arith in
      let same = same_call y g.1 in (
        one_more o s (phases o (sizes h p w) s x i).calls (phases o (sizes h p w) s x (i + 1)).calls (phase (phases o (sizes h p w) s x i).exchange (sizes h p w)) q q'' g.0 next_calls (ap (refusal q) (sym same) ∙ a) (n ∙ ap (step o q) same),
        e ∙ (ap (λ u. after_asks y (asks o u.boards u.faults (u.phases + 1) y u.slots)) g.0.1
            ∙ (ap (λ z. let u = run o s (phases o (sizes h p w) s x i).calls in after_asks z (asks o u.boards u.faults (u.phases + 1) z u.slots)) g.1 ∙ sym (ap (λ k. (phases o (sizes h p w) s x k).exchange) on))),
      )

  pub phase_stops : (n : ℕ) → i < n → (q : State L) (y : Exchange (Slip L)) (r : ℕ) → Stands q y → refusal q (phase y (sizes h' p' w')) ≡ Some r → first_refusal o s (phases o (sizes h p w) s x n).calls ≡ Some r
  phase_stops n lt q y r g a =
      one_stops o s (phases o (sizes h p w) s x i).calls (phases o (sizes h p w) s x (i + 1)).calls (phases o (sizes h p w) s x n).calls (phase (phases o (sizes h p w) s x i).exchange (sizes h p w)) q r g.0 next_calls (phases_on o (sizes h p w) s x (i + 1) n (omega arith)) (ap (refusal q) (sym (same_call y g.1)) ∙ a)

module _ {L : Type 0} (o : Comparison L) where
  chosen : (b : Bool) (u v : State L) → v.boards ≡ u.boards → (cond b u v).boards ≡ u.boards
  chosen true u v e = refl
  chosen false u v e = e

  proposing_boards : (q : ℕ) (vs : List L) (s : State L) → (run o s (proposing q vs)).boards ≡ s.boards
  proposing_boards q [] s = refl
  proposing_boards q (v ∷ vs) s = proposing_boards (q + 1) vs (step o s (propose q v)) ∙ chosen (is_some (refusal s (propose q v))) s (change o s (propose q v)) refl

  phases_boards : (l : Lengths) (s : State L) (x : Exchange (Slip L)) (k : ℕ) → (run o s (phases o l s x k).calls).boards ≡ s.boards
  phases_boards l s x zero = refl
  phases_boards l s x (suc k) =
      let c = phases o l s x k in
      let e = phase c.exchange l in
      let u = run o s c.calls in
      ap (λ z. z.boards) (run_append o s c.calls (e ∷ [])) ∙ (chosen (is_some (refusal u e)) u (change o u e) refl ∙ phases_boards l s x k)

  -- a panel that was fitted by the script has its boards
  pub opened_boards : (m : List (Slot L)) (h : Header) (ps : List L) (l : Lengths) (x : Exchange (Slip L)) (k : ℕ) → first_refusal o (new m) (opening h ps) ≡ None →
      (run o (run o (new m) (opening h ps)) (phases o l (run o (new m) (opening h ps)) x k).calls).boards ≡ h.boards
  opened_boards m h ps l x k e =
      let f : Event L = fit h.boards (borne h) in
      let b = both_none (refusal (new m) f) (first_refusal o (step o (new m) f) (proposing 0 (take h.boards ps))) e in
      phases_boards l (run o (new m) (opening h ps)) x k ∙ (proposing_boards 0 (take h.boards ps) (step o (new m) f) ∙ ap (λ a. (cond (is_some a) (new m) (change o (new m) f)).boards) b.0)

  long : (n m : ℕ) (a b : Option ℕ) → n ≤ m → cond (ltb m n) a b ≡ b
  long n m a b le = cond-false (ltb m n) a b (le-ltb m n le)

  ran_err : (m : List (Slot L)) (h : List (Event L)) (n k : ℕ) (vs : List (Option L)) (r : Result ℕ Refusal) (e : Refusal) → IsErrAnd r (λ y. y ≡ e) → n ≤ length vs → first_refusal o (new m) h ≡ Some (row e) → Ran o m h n k vs vs r
  ran_err m h n k vs (Ok u) e b le f = absurd b
  ran_err m h n k vs (Err y) e b le f = grind (arith, common_steps)

  module _ (m : List (Slot L)) (h : Header) (ps : List L) (l : Lengths) (vs : List (Option L)) (le : h.boards ≤ length vs) (s : State L) (made : s ≡ new m) where
    pub not_opened : (x : Exchange (Slip L)) (k : ℕ) (r : Result ℕ Refusal) (e : Refusal) → IsErrAnd r (λ y. y ≡ e) → first_refusal o s (opening h ps) ≡ Some (row e) →
        Ran o m (opening h ps ++ (phases o l (after o m (opening h ps)) x k).calls) h.boards k vs vs r
    not_opened x k r e b f =
        ran_err m (opening h ps ++ (phases o l (after o m (opening h ps)) x k).calls) h.boards k vs r e b le (refused_first o (new m) (opening h ps) (phases o l (after o m (opening h ps)) x k).calls (row e) (ap (λ u. first_refusal o u (opening h ps)) (sym made) ∙ f))

    module _ (s' : State L) (x y : Exchange (Slip L)) (same : y ≡ x) (k k' : ℕ) (often : k' ≡ k) (g : Going o s (opening h ps) s') where
      opened : Going o (new m) (opening h ps) s'
      opened = subst (λ u. Going o u (opening h ps) s') made g

      calls_same : (phases o l s' y k').calls ≡ (phases o l (after o m (opening h ps)) x k).calls
      calls_same = λ i. (phases o l (opened.1 i) (same i) (often i)).calls

      pub not_run : (r : Result ℕ Refusal) (e : Refusal) → IsErrAnd r (λ y. y ≡ e) → first_refusal o s' (phases o l s' y k').calls ≡ Some (row e) →
          Ran o m (opening h ps ++ (phases o l (after o m (opening h ps)) x k).calls) h.boards k vs vs r
      not_run r e b f =
          ran_err m (opening h ps ++ (phases o l (after o m (opening h ps)) x k).calls) h.boards k vs r e b le (stops o (new m) (opening h ps) (phases o l (after o m (opening h ps)) x k).calls s' (row e) opened (ap (first_refusal o s') (sym calls_same) ∙ f))

      pub all_run : (s'' : State L) (part vs' : List (Option L)) → Going o s' (phases o l s' y k').calls s'' → part ≡ verdicts (length (take h.boards vs)) s'' → vs' ≡ part ++ drop h.boards vs →
          Ran o m (opening h ps ++ (phases o l (after o m (opening h ps)) x k).calls) h.boards k vs vs' (Ok k')
      all_run s'' part vs' w e put =
          let all = going_on o (new m) (opening h ps) (phases o l (after o m (opening h ps)) x k).calls s' s'' opened (subst (λ c. Going o s' c s'') calls_same w) in
          let told : part ≡ verdicts h.boards s'' = e ∙ ap (λ n. verdicts n s'') (length-take-le h.boards vs le) in
          let many : length (verdicts h.boards s'') ≡ h.boards = length-map-range_with_len (λ q. label_of (at s''.slots q verdict_place)) 0 h.boards in
          let is : vs' ≡ laid (verdicts h.boards s'') vs = put ∙ ap (λ v. v ++ drop h.boards vs) told ∙ ap (λ n. verdicts h.boards s'' ++ drop n vs) (sym many) in
          (long h.boards (length vs) (Some 10) _ le ∙ all.0, often, is ∙ ap (λ u. laid (verdicts h.boards u) vs) all.1)

      pub boards_there : (s'' : State L) → Going o s' (phases o l s' y k').calls s'' → h.boards ≤ s''.boards
      boards_there s'' w =
          let there : s''.boards ≡ h.boards = ap (λ u. u.boards) w.1 ∙ (ap (λ u. (run o u (phases o l u y k').calls).boards) opened.1 ∙ opened_boards m h ps l y k' opened.0) in
          omega (arith, there)

  pub same_trees : (h : Header) (count : ℕ) (m : Lists L) (x : Tree (ScriptBackplane (Slip L))) (b : ScriptBackplane (Slip L)) (bad t : ℕ) → x.plane ≡ b → script_plane b ≡ script h.boards bad (take count m.records) m.slips 0 → bad ≡ bad_map h → x.faults ≡ t → t ≡ borne h → tree_exchange (same_slip o) script_plane x ≡ script_trees o h count m
  same_trees h count m x b bad t ex eb ed ef et = grind (arith, common_steps)
