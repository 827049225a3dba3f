-- Cases settled by hand, with labels that are numbers.
use Rattle.std.specs.Prelude.{◌≡◌, ℕ, cond, List, [], ◌∷◌, ◌++◌, map, get_or, replicate, Some, None, Option, ◌==◌, slice_index_or}
use Rattle.std.specs.List.{AllByRecursion}
use Rattle.labels.specs.Kinds.{by_number}
use Rattle.exchanges.specs.Worked as trees
use Rattle.panel.specs.Slots.{Slot}
use Rattle.panel.specs.Phase.{choice}
use Rattle.panel.specs.Panel.{new, fit, refusal}

-- a slip
abbrev pub said : ℕ → ℕ → Slot ℕ
said v c = Some (record { label = v; phase = c })

pub data Case : Type 0 where
  -- a path of a tree is reduced
  reduced : trees.Case → Case
  -- of four boards, one of which may be bad: in this phase, with these claims heard, and these picks of one earlier phase, the choice is the last
  chosen : ℕ → List (Slot ℕ) → ℕ → List (Slot ℕ) → Option ℕ → Case
  -- a new panel with room for all answers this to a fit for n boards, of which t may be bad
  fitting : ℕ → ℕ → Option ℕ → Case

abbrev pub Right : Case → Type 0
Right (reduced c) = trees.Right c
Right (chosen f claims g picks r) = choice by_number 4 1 f (λ q. get_or claims q None) (λ c q. cond (c == g) (slice_index_or picks q None) None) ≡ r
Right (fitting n t r) = refusal (new (replicate 80 (said 0 0))) (fit n t) ≡ r

abbrev pub cases : List Case
cases =
    map reduced trees.cases
    ++ (chosen 1 (said 5 0 ∷ said 5 0 ∷ said 6 0 ∷ said 9 0 ∷ []) 0 [] (Some 5)
    ∷ chosen 1 (said 6 0 ∷ said 5 0 ∷ said 5 0 ∷ said 6 0 ∷ []) 0 [] (Some 5)
    ∷ chosen 1 (said 5 0 ∷ said 5 0 ∷ None ∷ None ∷ []) 0 [] None
    ∷ chosen 3 (said 8 1 ∷ said 5 0 ∷ said 5 0 ∷ None ∷ []) 1 (said 8 1 ∷ said 8 1 ∷ None ∷ None ∷ []) (Some 8)
    ∷ chosen 3 (said 8 1 ∷ said 5 0 ∷ said 5 0 ∷ None ∷ []) 1 (said 8 1 ∷ None ∷ None ∷ None ∷ []) None
    ∷ chosen 3 (said 8 1 ∷ said 5 2 ∷ said 5 2 ∷ said 8 1 ∷ []) 2 (said 5 2 ∷ said 5 2 ∷ None ∷ None ∷ []) (Some 5)
    ∷ chosen 1 (said 6 1 ∷ said 5 0 ∷ said 6 0 ∷ said 7 0 ∷ []) 0 [] (Some 5)
    ∷ fitting 4 1 None
    ∷ fitting 7 2 None
    ∷ fitting 3 1 (Some 2)
    ∷ fitting 8 2 (Some 2)
    ∷ [])

abbrev pub Worked : Type 0
Worked = AllByRecursion Right cases
