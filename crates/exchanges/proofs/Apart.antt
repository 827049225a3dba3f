-- What stands by itself: carries over lines that are cut or not, counts of a list shortened, counts that fit.
use Rattle.std.specs.Prelude.{◌≡◌, ℕ, ◌*◌, ◌≤◌, Bool, true, false, cond, ◌&&◌, List, [], ◌∷◌, None, count_by, Option, nat_le, nat_lt}
use Rattle.std.proofs.Common.{sym, ap, ◌∙◌, inl, inr, arith, leb-true}
use Rattle.std.proofs.lemmas.Bool.{cases_Bool, cond_both, and_parts}
use Rattle.exchanges.specs.Boards.{fits, most_boards}
use Rattle.exchanges.specs.Counts.{count_yes, count_no}
use Rattle.exchanges.specs.CutLines.{cut, passed, uncut, cut_plane}
use Rattle.exchanges.specs.Plane.{Plane, carry, Carried}

module _ {I : Type 0} (rows : List ℕ) (b : Plane I) where
  -- the plane where a carry has this test
  abbrev by_test : ℕ → ℕ → Option I → Bool → Plane I
  by_test s d x t = record {
    boards = b.boards;
    bad = b.bad;
    round = b.round;
    clear = λ r. b.clear r && uncut rows b.bad b.boards;
    answer = λ l s' d' x'. cond (cut rows s' d') None (b.answer (cond t (passed rows l) (carry s d x ∷ passed rows l)) s' d' x');
  }

  pub cut_carried : (s d : ℕ) (x : Option I) → cut rows s d ≡ true → Carried (cut_plane rows b) (cut_plane rows b) s d x None
  cut_carried s d x e = record {
    answers = ap (λ t. cond t None (b.answer [] s d x)) (sym e);
    leaves = ap (by_test s d x) (sym e);
  }

  pub uncut_carried : (b' : Plane I) (s d : ℕ) (x r : Option I) → cut rows s d ≡ false → Carried b b' s d x r → Carried (cut_plane rows b) (cut_plane rows b') s d x r
  uncut_carried b' s d x r e h = record {
    answers = h.answers ∙ ap (λ t. cond t None (b.answer [] s d x)) (sym e);
    leaves = ap (cut_plane rows) h.leaves ∙ ap (by_test s d x) (sym e);
  }

-- what holds of both ways of a test holds of the choice
pub choose : {X : Type 0} (P : X → Type 0) (t : Bool) (a b : X) → P a → P b → P (cond t a b)
choose P t a b h k = cond_both t a b P (λ _. h) (λ _. k)

-- a list shortened behind the same head, or behind none, counts no more
pub count_cons : {X : Type 0} (p : X → Bool) (x : X) (ks xs : List X) → count_by p ks ≤ count_by p xs → (count_by p (x ∷ ks) ≤ count_by p (x ∷ xs)) × (count_by p ks ≤ count_by p (x ∷ xs))
count_cons p x ks xs h = elim (cases_Bool (p x)) [ inl e ↦ (omega (arith, count_yes p x ks e, count_yes p x xs e), omega (arith, count_yes p x xs e)) | inr e ↦ (omega (arith, count_no p x ks e, count_no p x xs e), omega (arith, count_no p x xs e)) ]

pub few_boards : (n t : ℕ) → fits n t ≡ true → n ≤ most_boards
few_boards n t e = leb-true n most_boards (and_parts (nat_le n most_boards) (nat_lt (3 * t) n) (and_parts (nat_lt 0 n) _ e).1).0
