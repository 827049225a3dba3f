-- What an exchange answers, and what it leaves in the memory that it is given.
use Rattle.std.specs.Prelude.{◌≡◌, ℕ, ◌+◌, ◌*◌, Bool, not, ◌||◌, List, [], ◌∷◌, ◌++◌, length, take, drop, Some, None, Ok, Err, Option, Result, nat_lt}
use Rattle.labels.specs.declared.refusal.Refusal.{Refusal}
use Rattle.labels.specs.Refusals.{row, first_row}
use Rattle.exchanges.specs.Boards.{fits}
use Rattle.exchanges.specs.Plane.{last_round}
use Rattle.exchanges.specs.Exchange.{Exchange, Ask, plain, firm, after_ask}

-- the refusals of an exchange of k rounds begun at round r, the earliest first: the counts, the memory, the rounds
abbrev pub ask_table : ℕ → ℕ → Bool → ℕ → ℕ → List (Bool × ℕ)
ask_table n t short r k = (not (fits n t), 2) ∷ (short, 10) ∷ (nat_lt last_round (r + k), 11) ∷ []

abbrev pub due : ℕ → ℕ → Bool → ℕ → ℕ → Option ℕ
due n t short r k = first_row (ask_table n t short r k)

-- whether what is sent or heard has too few places for n boards
abbrev pub short : {X : Type 0} → ℕ → List X → List X → Bool
short n s h = nat_lt (length s) n || nat_lt (length h) (n * n)

-- by the refusal that is due: x and x' are the exchange before and after, h and h' what is heard
abbrev pub Asked : {I X U : Type 0} → (X → Exchange I) → X → X → Ask I → Option ℕ → List (Option I) → List (Option I) → Result U Refusal → Type 0
Asked meaning x x' a d h h' (Ok u) =
    (d ≡ None) × (meaning x' ≡ after_ask (meaning x) a) × (h' ≡ (meaning x).fills [] a ++ drop ((meaning x).boards * (meaning x).boards) h)
Asked meaning x x' a d h h' (Err e) = (d ≡ Some (row e)) × (x' ≡ x) × (h' ≡ h)

-- a plain exchange of what s holds for each board
abbrev pub PlainAsked : {I X U : Type 0} → (X → Exchange I) → X → X → List (Option I) → List (Option I) → List (Option I) → Result U Refusal → Type 0
PlainAsked meaning x x' s h h' r =
    let m = meaning x in
    Asked meaning x x' (plain (take m.boards s)) (due m.boards m.faults (short m.boards s h) m.round 1) h h' r

-- the workspace past its places is kept, and all of it on a refusal; its k places are free
abbrev pub Kept : {X U : Type 0} → ℕ → List X → List X → Result U Refusal → Type 0
Kept k w w' (Ok u) = drop k w' ≡ drop k w
Kept k w w' (Err e) = w' ≡ w

-- a firm exchange, with the workspace w before and w' after
pub record FirmAsked {I X U : Type 0} (meaning : X → Exchange I) (x x' : X) (s h h' w w' : List (Option I)) (r : Result U Refusal) : Type 0 where
  pub asked : Asked meaning x x' (firm (take (meaning x).boards s)) (due (meaning x).boards (meaning x).faults (short (meaning x).boards s h || nat_lt (length w) (meaning x).workspace) (meaning x).round (meaning x).firm_rounds) h h' r
  pub kept : Kept (meaning x).workspace w w' r
