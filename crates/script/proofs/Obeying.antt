-- The backplane's meaning obeys the records as they stand. Assumes nothing.
use Rattle.std.proofs.lemmas.Grind.{common_steps}
use Rattle.std.proofs.Common.{◌≡◌, ℕ, zero, suc, ◌+◌, ◌/◌, ◌%◌, ◌^◌, ◌<◌, Bool, true, false, cond, not, ◌&&◌, ◌||◌, eqb, ltb, ◌⊎◌, List, [], ◌∷◌, ◌++◌, Some, None, Option, sym, refl, ap, ◌∙◌, subst, ap₂, inl, inr, ⊎_elim, add-zero, add_assoc, mod-lt, zero-add, one-add, arith, lit<, pow_pos}
use lib.Arith.{lt-one}
use lib.Count.{ones, ones_cat}
use lib.Pow.{mod-pow-add}
use Rattle.std.proofs.lemmas.Bool.{cond-true, cond-false, and_from, and_parts, eqb-true, cases_Bool, both_ways, or_left, or_right, not_from_false}
use Rattle.std.proofs.lemmas.Bool.Decides.{Decides-below_and}
use Rattle.std.specs.List.{slice_get}
use Rattle.exchanges.specs.Boards.{bit, count}
use Rattle.exchanges.specs.CutLines.{each_below}
use Rattle.exchanges.specs.Plane.{Plane, round_after}
use Rattle.exchanges.specs.Cuts.{each_at, free}
use Rattle.script.specs.declared.model.Record.{Record}
use Rattle.script.specs.declared.rules.Rule.{Rule}
use Rattle.script.specs.ScriptAnswers.{is_for, first_rule, obeyed, loses, script}
use Rattle.script.specs.Obeys.{Unsaid, First, Lossless, forged_items, Obeys}
use Rattle.script.proofs.Tables.{ruled}

digit : (t : ℕ) → t < 2 → ones t ≡ cond (eqb t 1) 1 0
unfolding ones
digit zero h = refl
digit (suc zero) h = refl
digit (suc (suc t)) h = absurd (omega arith)

-- the bits of a map below d are the boards below d in it
ones_count : (m d : ℕ) → ones (m % 2 ^ d) ≡ count (λ q. bit m q) d
unfolding ones
ones_count m zero = ap ones (lt-one (mod-lt m (lit< tt)))
ones_count m (suc d) =
    ap (λ k. ones (m % 2 ^ k)) (sym (one-add d)) ∙ ap ones (mod-pow-add m 1 d) ∙ ones_cat d (m / 2 ^ d % 2) (m % 2 ^ d) (mod-lt m (pow_pos d)) ∙ ap₂ (λ (a b : ℕ). a + b) (digit (m / 2 ^ d % 2) (mod-lt (m / 2 ^ d) (lit< tt))) (ones_count m d)

module _ (r s : ℕ) where
  for : (c : Record) → c.round ≡ r → c.sender ≡ s → is_for c r s ≡ true
  for c e f = grind (arith, common_steps)

  not_for : (c : Record) → (c.round ≡ r → c.sender ≡ s → ⊥) → is_for c r s ≡ false
  not_for c h = grind (arith, common_steps)

  unsaid_rule : (l : List Record) (k : ℕ) → Unsaid l r s → first_rule l k r s ≡ None
  unsaid_rule [] k h = refl
  unsaid_rule (c ∷ l) k h =
      cond-false (is_for c r s) _ _ (not_for c h.0) ∙ unsaid_rule l (k + ones c.forged) h.1

  first_stands : (l m : List Record) (c : Record) (k : ℕ) → Unsaid l r s → is_for c r s ≡ true → first_rule (l ++ (c ∷ m)) k r s ≡ Some (ruled c (k + forged_items l))
  first_stands [] m c k h e = cond-true (is_for c r s) _ _ e ∙ ap (λ n. Some (ruled c n)) (sym (add-zero k))
  first_stands (b ∷ l) m c k h e =
      cond-false (is_for b r s) _ _ (not_for b h.0) ∙ first_stands l m c (k + ones b.forged) h.1 e ∙ ap (λ n. Some (ruled c n)) (add_assoc k (ones b.forged) (forged_items l))

  first_says : (records earlier : List Record) (c : Record) → First records earlier c r s → first_rule records 0 r s ≡ Some (ruled c (forged_items earlier))
  first_says records earlier c f =
      ap (λ l. first_rule l 0 r s) f.stands ∙ first_stands earlier f.later c 0 f.unsaid (for c f.of_round f.of_sender) ∙ ap (λ n. Some (ruled c n)) (zero-add (forged_items earlier))

  -- there is none, or a first
  search_first : (l : List Record) → Unsaid l r s ⊎ ((earlier : List Record) × (c : Record) × First l earlier c r s)
  search_first [] = inl tt
  search_first (c ∷ l) = go (search_first l) (cases_Bool (is_for c r s))
    where
      go : Unsaid l r s ⊎ ((earlier : List Record) × (e : Record) × First l earlier e r s) → (is_for c r s ≡ true) ⊎ (is_for c r s ≡ false) → Unsaid (c ∷ l) r s ⊎ ((earlier : List Record) × (e : Record) × First (c ∷ l) earlier e r s)
      go rest (inl e) =
          let p = and_parts (eqb c.round r) (eqb c.sender s) e in
          inr ([], c, record { later = l; stands = refl; unsaid = tt; of_round = eqb-true c.round r p.0; of_sender = eqb-true c.sender s p.1 })
      go rest (inr e) =
          let apart : c.round ≡ r → c.sender ≡ s → ⊥ = λ p q. both_ways (is_for c r s) e (for c p q) in
          ⊎_elim (λ h. inl (apart, h)) (λ f. inr (c ∷ f.0, f.1, record { later = f.2.later; stands = ap (λ m. c ∷ m) f.2.stands; unsaid = (apart, f.2.unsaid); of_round = f.2.of_round; of_sender = f.2.of_sender })) rest

module _ (records : List Record) (bad : ℕ) (n r : ℕ) where
  abbrev kept : ℕ → ℕ → Bool
  kept s d = bit bad s || (bit bad d || not (loses (first_rule records 0 r s) d))

  lossless_kept : Lossless n bad records r → (s d : ℕ) → s < n → d < n → kept s d ≡ true
  lossless_kept h s d sn dn = go (cases_Bool (bit bad s)) (cases_Bool (bit bad d))
    where
      go : (bit bad s ≡ true) ⊎ (bit bad s ≡ false) → (bit bad d ≡ true) ⊎ (bit bad d ≡ false) → kept s d ≡ true
      go (inl e) _ = or_left (bit bad s) _ e
      go (inr e) (inl e') = or_right (bit bad s) _ (or_left (bit bad d) _ e')
      go (inr e) (inr e') =
          let none : loses (first_rule records 0 r s) d ≡ false = ⊎_elim (λ u. ap (λ o. loses o d) (unsaid_rule r s records 0 u)) (λ f. ap (λ o. loses o d) (first_says r s records f.0 f.1 f.2) ∙ h s d (sn, e) (dn, e') f.0 f.1 f.2) (search_first r s records) in
          or_right (bit bad s) _ (or_right (bit bad d) _ (not_from_false _ none))

  each_all : (f : ℕ → Bool) → ((k : ℕ) → k < n → f k ≡ true) → each_below f n ≡ true
  each_all f h =
      (Decides-below_and f (λ j. f j ≡ true) (each_below f) (λ j. (λ e. e, λ e. e)) refl (λ _. refl) n).1 h

  lossless_clear : Lossless n bad records r → each_below (λ s. each_below (kept s) n) n ≡ true
  lossless_clear h =
      each_all (λ s. each_below (kept s) n) (λ s sn. each_all (kept s) (λ d dn. lossless_kept h s d sn dn))

  clear_lossless : each_below (λ s. each_below (kept s) n) n ≡ true → Lossless n bad records r
  clear_lossless h s d p q earlier c f =
      sym (ap (λ o. loses o d) (first_says r s records earlier c f)) ∙ free (bit bad s) (bit bad d) _ (each_at (kept s) n d (each_at (λ t. each_below (kept t) n) n s h p.0) q.0) p.1 q.1

module _ {I : Type 0} (n bad : ℕ) (records : List Record) (slips : List I) (s d : ℕ) (x : Option I) (sn : s < n) (dn : d < n) (r : ℕ) where
  -- what is heard under a rule of the sender
  under : (o : Option Rule) → first_rule records 0 r s ≡ o → cond (ltb s n && ltb d n) (obeyed (first_rule records 0 r s) slips bad s d x) None ≡ obeyed o slips bad s d x
  under o e = grind (arith, common_steps)

script_obeys : {I : Type 0} (n bad : ℕ) (records : List Record) (slips : List I) (round : ℕ) → Obeys n bad records slips (script n bad records slips round)
script_obeys n bad records slips round = record {
  unsaid = λ l s d x sn dn u. let r = round_after round l in under n bad records slips s d x sn dn r None (unsaid_rule r s records 0 u);
  lost = λ l s d x sn dn earlier c f e.
      let r = round_after round l in
      under n bad records slips s d x sn dn r _ (first_says r s records earlier c f) ∙ cond-true (bit c.lost d) None _ e;
  forged = λ l s d x sn dn earlier c f e b g.
      let r = round_after round l in
      under n bad records slips s d x sn dn r _ (first_says r s records earlier c f) ∙ cond-false (bit c.lost d) None _ e ∙ cond-true (bit bad s && bit c.forged d) _ x (and_from _ _ b g) ∙ ap (λ k. slice_get slips (forged_items earlier + k)) (ones_count c.forged d);
  sent = λ l s d x sn dn earlier c f e g.
      let r = round_after round l in
      under n bad records slips s d x sn dn r _ (first_says r s records earlier c f) ∙ cond-false (bit c.lost d) None _ e ∙ cond-false (bit bad s && bit c.forged d) _ x g;
  clear = λ r. (clear_lossless records bad n r, lossless_clear records bad n r);
}

pub obeys_as : {I : Type 0} (n bad : ℕ) (records : List Record) (slips : List I) (round : ℕ) (b : Plane I) → b ≡ script n bad records slips round → Obeys n bad records slips b
obeys_as n bad records slips round b e = subst (Obeys n bad records slips) (sym e) (script_obeys n bad records slips round)
