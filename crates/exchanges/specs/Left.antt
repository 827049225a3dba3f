-- What a firm exchange by trees leaves in the workspace.
use Rattle.std.specs.Prelude.{◌≡◌, ℕ, ◌+◌, ◌*◌, Bool, List, ◌++◌, take, drop, Ok, Err, Option, Result}
use Rattle.labels.specs.declared.refusal.Refusal.{Refusal}
use Rattle.exchanges.specs.Plane.{Plane}
use Rattle.exchanges.specs.Trees.{tree_size, filled, workspace}

-- by what it answers: w and w' are the slots before and after; s is what the boards have to send
abbrev pub Left : {I U : Type 0} → (I → I → Bool) → ℕ → Plane I → List (Option I) → List (Option I) → List (Option I) → Result U Refusal → Type 0
Left same t b s w w' (Ok u) =
    let n = b.boards in
    w' ≡ workspace same n t (filled n (t + 1) b (take n s)).trees ++ drop (n * tree_size n t) w
Left same t b s w w' (Err e) = w' ≡ w
