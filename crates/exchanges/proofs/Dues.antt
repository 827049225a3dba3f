-- What it says that no refusal is due. Assumes nothing.
use Rattle.std.proofs.lemmas.Grind.{common_steps}
use Rattle.std.proofs.Common.{◌≡◌, ℕ, ◌+◌, ◌*◌, ◌≤◌, Bool, true, false, not, ltb, List, [], ◌∷◌, length, None, sym, refl, ap, ◌∙◌, arith}
use Rattle.std.proofs.lemmas.Bool.{ltb-false}
use Rattle.labels.specs.Refusals.{first_row}
use Rattle.exchanges.specs.Boards.{fits}
use Rattle.exchanges.specs.Plane.{last_round}
use Rattle.exchanges.specs.Asked.{due, short}

-- an exchange of k rounds begun at round r is not refused
pub record Undue (n t r k : ℕ) (sh : Bool) : Type 0 where
  pub fit : fits n t ≡ true
  pub room : sh ≡ false
  pub timely : r + k ≤ last_round

pub undue : (n t r k : ℕ) (sh : Bool) → due n t sh r k ≡ None → Undue n t r k sh
undue n t r k sh e = go (fits n t) sh (ltb last_round (r + k)) refl refl refl e
  where
    go : (f s l : Bool) → fits n t ≡ f → sh ≡ s → ltb last_round (r + k) ≡ l → first_row ((not f, 2) ∷ (s, 10) ∷ (l, 11) ∷ []) ≡ None → Undue n t r k sh
    go true true l a b c h = absurd (cc)
    go true false true a b c h = absurd (cc)
    go true false false a b c h = record { fit = a; room = b; timely = ltb-false _ _ c }
    go false s l a b c h = absurd (cc)

-- there is a place for each pair of boards
pub long_heard : {X : Type 0} (n : ℕ) (s h : List X) → short n s h ≡ false → n * n ≤ length h
long_heard n s h e = grind (arith, common_steps)

-- no refusal is due, by what calls answered: n boards, z for short memory, round q
pub none_due : (n m t q r k : ℕ) (sh : ℕ → Bool) (z : Bool) → n ≡ m → z ≡ sh n → q ≡ r → due n t z q k ≡ None → due m t (sh m) r k ≡ None
none_due n m t q r k sh z en ez er e =
    sym (λ i. due (en i) t ((ez ∙ ap sh en) i) (er i) k) ∙ e
