-- Cases worked by hand, as one list.
use Rattle.std.specs.Prelude.{◌≡◌, ℕ, List, [], ◌∷◌, Some, None, Option, nat_eq}
use Rattle.exchanges.specs.Trees.{reduce}

pub data Case : Type 0 where
  -- n boards of which t may be bad, a path of k boards, what its children hold, and what it gets
  reduction : ℕ → ℕ → ℕ → List (Option ℕ) → Option ℕ → Case

abbrev pub Right : Case → Type 0
Right (reduction n t k children got) = reduce nat_eq n t k children ≡ got

abbrev pub AllRight : List Case → Type 0
AllRight [] = Unit {0}
AllRight (c ∷ l) = Right c × AllRight l

abbrev pub cases : List Case
cases =
    reduction 4 1 1 (Some 9 ∷ Some 9 ∷ None ∷ []) (Some 9)
    ∷ reduction 4 1 1 (Some 9 ∷ Some 8 ∷ None ∷ []) None
    ∷ []
