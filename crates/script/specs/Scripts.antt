-- What a backplane that obeys records keeps. Assumes nothing.
use Rattle.std.specs.Prelude.{◌≡◌, ℕ, ◌+◌, ◌%◌, ◌^◌, ◌≤◌, Bool, false, cond, ◌&&◌, ◌⊎◌, List, [], ◌∷◌, ◌++◌, Some, None, Option, count_ones, nat_lt, refl}
use Rattle.std.proofs.Common.{ap, ◌∙◌, inl, inr}
use Rattle.std.proofs.lemmas.Bool.{cond_both, cond-true, cond-false, lt-ltb, le-ltb, and_from, and_left, and_right}
use Rattle.std.specs.List.{slice_get}
use Rattle.exchanges.specs.Boards.{bit}
use Rattle.exchanges.specs.Plane.{Call, turn, carry, Keeps, round_after, next_round, last_round}
use Rattle.exchanges.specs.Cuts.{each_at, free}
use Rattle.script.specs.declared.model.Record.{Record}
use Rattle.script.specs.declared.rules.Rule.{Rule}
use Rattle.script.specs.ScriptAnswers.{first_rule, obeyed, loses, script}

module _ {I : Type 0} (slips : List I) (bad s d : ℕ) (x : Option I) where
  -- what is answered where nothing is lost
  abbrev kept_by : Rule → Bool → Option I
  kept_by c t = cond (t && bit c.forged d) (slice_get slips (c.start + count_ones (c.forged % 2 ^ d))) x

  obeyed_faithful : (o : Option Rule) → bit bad s ≡ false → (obeyed o slips bad s d x ≡ x) ⊎ (obeyed o slips bad s d x ≡ None)
  obeyed_faithful None e = inl refl
  obeyed_faithful (Some c) e =
      cond_both (bit c.lost d) None _ (λ y. (y ≡ x) ⊎ (y ≡ None)) (λ _. inr refl) (λ _. inl (ap (kept_by c) e))

  obeyed_clear : (o : Option Rule) → bit bad s ≡ false → loses o d ≡ false → obeyed o slips bad s d x ≡ x
  obeyed_clear None e h = refl
  obeyed_clear (Some c) e h = cond-false (bit c.lost d) None _ h ∙ ap (kept_by c) e

round_stays : {I : Type 0} (r : ℕ) (l m : List (Call I)) → last_round ≤ round_after r l → round_after r (l ++ (turn ∷ m)) ≡ round_after r (l ++ m)
round_stays r [] m h = ap (λ k. round_after k m) (cond-false (nat_lt r last_round) (r + 1) r (le-ltb r last_round h))
round_stays r (turn ∷ l) m h = round_stays (next_round r) l m h
round_stays r (carry s d x ∷ l) m h = round_stays r l m h

pub script_keeps : {I : Type 0} (n bad : ℕ) (records : List Record) (slips : List I) (round : ℕ) → Keeps (script n bad records slips round)
script_keeps n bad records slips round = record {
  faithful = λ l s d x p. cond_both (nat_lt s n && nat_lt d n) _ None (λ y. (y ≡ x) ⊎ (y ≡ None)) (λ _. obeyed_faithful slips bad s d x (first_rule records 0 (round_after round l) s) p.1) (λ _. inr refl);
  clears = λ l s d x p q c.
      let o = first_rule records 0 (round_after round l) s in
      let e = free (bit bad s) (bit bad d) (loses o d) (each_at _ n d (each_at _ n s c p.0) q.0) p.1 q.1 in
      cond-true (nat_lt s n && nat_lt d n) _ None (and_from _ _ (lt-ltb s n p.0) (lt-ltb d n q.0)) ∙ obeyed_clear slips bad s d x o p.1 e;
  no_sender = λ l s d x h. cond-false (nat_lt s n && nat_lt d n) _ None (and_left _ _ (le-ltb s n h));
  no_receiver = λ l s d x h. cond-false (nat_lt s n && nat_lt d n) _ None (and_right _ _ (le-ltb d n h));
  stays = λ l m s d x h. ap (λ r. cond (nat_lt s n && nat_lt d n) (obeyed (first_rule records 0 r s) slips bad s d x) None) (round_stays round l m h);
}
