-- What cutting lines keeps of a backplane. Assumes nothing.
use Rattle.std.specs.Prelude.{◌≡◌, ℕ, ◌<◌, ◌≤◌, Bool, true, false, cond, not, ◌||◌, ◌⊎◌, List, [], ◌∷◌, ◌++◌, None, Ok, Err, Result, refl}
use Rattle.std.proofs.Common.{sym, ap, subst, ◌∙◌, inr}
use Rattle.std.proofs.lemmas.Bool.{cond_both, and_parts}
use Rattle.std.proofs.lemmas.Bool.Decides.{Decides-below_and}
use Rattle.labels.specs.declared.refusal.Refusal.{Refusal}
use Rattle.exchanges.specs.declared.cut_lines.CutLines.{CutLines}
use Rattle.exchanges.specs.Plane.{Plane, Call, turn, carry, Keeps, round_after, next_round, last_round, Turned}
use Rattle.exchanges.specs.CutLines.{cut, passed, each_below, uncut, cut_plane, cut_lines_plane}

pub cut_turned : {I U B : Type 0} (plane : B → Plane I) (rows : List ℕ) (s t : B) (r : Result U Refusal) → Turned plane s t r → Turned {S = CutLines B} (cut_lines_plane plane) (record { rows = rows; below = s }) (record { rows = rows; below = t }) r
cut_turned plane rows s t (Ok u) h = (h.0, ap (cut_plane rows) h.1)
cut_turned {B = B} plane rows s t (Err e) h =
    (h.0, h.1, ap (λ (b : B). record { rows = rows; below = b }) h.2)

passed_append : {I : Type 0} (rows : List ℕ) (l m : List (Call I)) → passed rows (l ++ m) ≡ passed rows l ++ passed rows m
passed_append rows [] m = refl
passed_append rows (turn ∷ l) m = ap (λ k. turn ∷ k) (passed_append rows l m)
passed_append {I} rows (carry s d x ∷ l) m =
    let e : passed rows (l ++ m) ≡ passed rows l ++ passed rows m = passed_append rows l m in
    let both : (t : Bool) → cond t (passed rows (l ++ m)) (carry s d x ∷ passed rows (l ++ m)) ≡ cond t (passed rows l) (carry s d x ∷ passed rows l) ++ passed rows m = λ t. elim t as (λ t. cond t (passed rows (l ++ m)) (carry s d x ∷ passed rows (l ++ m)) ≡ cond t (passed rows l) (carry s d x ∷ passed rows l) ++ passed rows m) [ true ↦ e | false ↦ ap (λ k. carry s d x ∷ k) e ] in
    both (cut rows s d)

round_passed : {I : Type 0} (rows : List ℕ) (r : ℕ) (l : List (Call I)) → round_after r (passed rows l) ≡ round_after r l
round_passed rows r [] = refl
round_passed rows r (turn ∷ l) = round_passed rows (next_round r) l
round_passed rows r (carry s d x ∷ l) =
    cond_both (cut rows s d) (passed rows l) (carry s d x ∷ passed rows l) (λ k. round_after r k ≡ round_after r l) (λ _. round_passed rows r l) (λ _. round_passed rows r l)

pub each_at : (f : ℕ → Bool) (n k : ℕ) → each_below f n ≡ true → k < n → f k ≡ true
each_at f n k h = (Decides-below_and f (λ j. f j ≡ true) (each_below f) (λ j. (λ e. e, λ e. e)) refl (λ _. refl) n).0 h k

pub free : (x y z : Bool) → (x || (y || not z)) ≡ true → x ≡ false → y ≡ false → z ≡ false
free x y true h e e' = sym h ∙ ap (λ t. t || (y || false)) e ∙ ap (λ t. t || false) e'
free x y false h e e' = refl

uncut_at : (rows : List ℕ) (bad : ℕ → Bool) (n s d : ℕ) → uncut rows bad n ≡ true → s < n → d < n → bad s ≡ false → bad d ≡ false → cut rows s d ≡ false
uncut_at rows bad n s d h sn dn es ed =
    free (bad s) (bad d) (cut rows s d) (each_at _ n d (each_at _ n s h sn) dn) es ed

pub cut_keeps : {I : Type 0} (rows : List ℕ) (b : Plane I) → Keeps b → Keeps (cut_plane rows b)
cut_keeps {I} rows b k = record {
  faithful = λ l s d x p. cond_both (cut rows s d) None _ (λ y. (y ≡ x) ⊎ (y ≡ None)) (λ _. inr refl) (λ _. k.faithful (passed rows l) s d x p);
  clears = λ l s d x p q c.
      let parts = and_parts (b.clear (round_after b.round l)) (uncut rows b.bad b.boards) c in
      let e = uncut_at rows b.bad b.boards s d parts.1 p.0 q.0 p.1 q.1 in
      ap (λ t. cond t None (b.answer (passed rows l) s d x)) e ∙ k.clears (passed rows l) s d x p q (ap b.clear (round_passed rows b.round l) ∙ parts.0);
  no_sender = λ l s d x h. cond_both (cut rows s d) None _ (λ y. y ≡ None) (λ _. refl) (λ _. k.no_sender (passed rows l) s d x h);
  no_receiver = λ l s d x h. cond_both (cut rows s d) None _ (λ y. y ≡ None) (λ _. refl) (λ _. k.no_receiver (passed rows l) s d x h);
  stays = λ l m s d x h.
      ap (λ y. cond (cut rows s d) None y) (ap (λ c. b.answer c s d x) (passed_append rows l (turn ∷ m)) ∙ k.stays (passed rows l) (passed rows m) s d x (subst (λ r. last_round ≤ r) (sym (round_passed rows b.round l)) h) ∙ ap (λ c. b.answer c s d x) (sym (passed_append rows l m)));
}
