-- What a call that runs an exchange over a backplane answers and leaves.
use Rattle.std.specs.Prelude.{◌≡◌, ℕ, ◌*◌, List, ◌++◌, take, drop, Some, None, Ok, Err, Option, Result}
use Rattle.labels.specs.declared.refusal.Refusal.{Refusal}
use Rattle.labels.specs.Refusals.{row}
use Rattle.exchanges.specs.Plane.{Plane}
use Rattle.exchanges.specs.Plain.{Heard}

-- a backplane, with the slots that it fills
abbrev pub heard_at : {I : Type 0} → Plane I → List (Option I) → Heard I
heard_at b h = record { plane = b; slots = h }

-- by the refusal d that is due: b and b' are the backplane before and after, x is what the boards have to send, h and h' what is heard
abbrev pub Ran : {I B U : Type 0} → (B → Plane I) → (Plane I → List (Option I) → Heard I) → B → B → List (Option I) → Option ℕ → List (Option I) → List (Option I) → Result U Refusal → Type 0
Ran plane run b b' x d h h' (Ok u) =
    let n = (plane b).boards in
    let done = run (plane b) (take n x) in
    (d ≡ None) × (plane b' ≡ done.plane) × (h' ≡ done.slots ++ drop (n * n) h)
Ran plane run b b' x d h h' (Err e) = (d ≡ Some (row e)) × (b' ≡ b) × (h' ≡ h)
