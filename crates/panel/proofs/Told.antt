-- What a panel promises as it answers.
use Rattle.std.proofs.Common.{◌≡◌, ℕ, ◌<◌, Bool, true, false, not, ◌&&◌, eqb, ltb, leb, Some, None, Ok, Err, Option, Result, Ordering, Less, Equal, Greater, sym, refl, ap, ◌∙◌, subst, arith, eq-eqb, eqb-true}
use Rattle.std.proofs.lemmas.Bool.{leb-false, lt-ltb, lt-leb, cond-false, true≢false}
use Rattle.labels.specs.declared.refusal.Refusal.{Refusal}
use Rattle.labels.specs.declared.slip.Slip.{Slip}
use Rattle.std.specs.Ordering.{is_eq}
use Rattle.labels.specs.Item.{Tells}
use Rattle.labels.specs.Order.{Total}
use Rattle.labels.specs.Slip.{same_slip}
use Rattle.exchanges.specs.CutLines.{cut_plane}
use Rattle.exchanges.specs.Cuts.{cut_keeps}
use Rattle.exchanges.specs.Keep.{trees_keep}
use Rattle.labels.specs.Refusals.{row}
use Rattle.panel.specs.Slots.{Comparison, label_of}
use Rattle.panel.specs.Panel.{State, at, verdict, table, refusal, AnswersWith}
use Rattle.panel.specs.Settled.{Promised}
use Rattle.panel.proofs.Slips.{none≢some, label_from}
use Rattle.panel.proofs.Phases.{none_fits}
use Rattle.panel.proofs.Histories

module _ {L : Type 0} (s : State L) (q : ℕ) where
  -- the board holds v in this state
  abbrev Here : L → Type 0
  Here v = (r : Slip L) × ((q < s.boards) × (at s.slots q 9 ≡ Some r)) × (r.label ≡ v)

  accepted : q < s.boards → refusal s (verdict q) ≡ None
  accepted l =
      cond-false (not (ltb 0 s.boards)) _ _ (ap not (lt-ltb 0 s.boards (omega arith)))
      ∙ cond-false (leb s.boards q) _ _ (lt-leb s.boards q l)

  there : (r : Result (Option L) Refusal) → AnswersWith (refusal s (verdict q)) (label_of (at s.slots q 9)) r → (v : L) → r ≡ Ok (Some v) → Here v
  there r a v e =
      let b : (refusal s (verdict q) ≡ None) × (Some v ≡ label_of (at s.slots q 9)) = subst (AnswersWith (refusal s (verdict q)) (label_of (at s.slots q 9))) e a in
      let l = leb-false _ _ (none_fits (table s (verdict q)) b.0).1.0 in
      let k = label_from (at s.slots q 9) v (sym b.1) in
      (k.0, (l, k.1), k.2)

  back : (r : Result (Option L) Refusal) → AnswersWith (refusal s (verdict q)) (label_of (at s.slots q 9)) r → (v : L) → Here v → r ≡ Ok (Some v)
  back (Ok b) a v h = ap Ok (a.1 ∙ (ap label_of h.1.1 ∙ ap Some h.2))
  back (Err e) a v h = absurd (none≢some (row e) (sym (accepted h.1.0) ∙ a))

-- slips are told apart by label and number
slip_tells : {L : Type 0} (o : Comparison L) → Total o → Tells (same_slip o)
slip_tells o T = record {
  equal = λ x y e.
      let both = both_true (is_eq (o x.label y.label)) (eqb x.phase y.phase) e in
      let label = T.same x.label y.label (equal_from (o x.label y.label) both.0) in
      let phase = eqb-true _ _ both.1 in
      λ i. record { label = label i; phase = phase i };
  itself = λ x. ap (λ r. is_eq r && eqb x.phase x.phase) (T.itself x.label) ∙ eq-eqb _ _ refl;
}
  where
    both_true : (a b : Bool) → (a && b) ≡ true → (a ≡ true) × (b ≡ true)
    both_true true b e = (refl, e)
    both_true false b e = absurd (true≢false (sym e))

    equal_from : (r : Ordering) → is_eq r ≡ true → r ≡ Equal
    equal_from Less e = absurd (true≢false (sym e))
    equal_from Equal e = refl
    equal_from Greater e = absurd (true≢false (sym e))

pub promised : {L : Type 0} {o : Comparison L} → Total o → (s : State L) (q : ℕ) (r : Result (Option L) Refusal) → AnswersWith (refusal s (verdict q)) (label_of (at s.slots q 9)) r → Promised o s q r
promised {L} {o} T s q r a = record {
  always = Histories.settled o T;
  trees = trees_keep (same_slip o) (slip_tells o T);
  cut_trees = λ rows t b k. trees_keep (same_slip o) (slip_tells o T) t (cut_plane rows b) (cut_keeps rows b k);
  told = λ m h e v. ((λ k. subst (λ u. Here u q v) e (there s q r a v k)), λ k. back s q r a v (subst (λ u. Here u q v) (sym e) k));
}
