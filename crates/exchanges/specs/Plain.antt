-- A plain exchange over a backplane: a turn, and a carry for each pair, by sender and then receiver.
use Rattle.std.specs.Prelude.{ℕ, zero, suc, ◌+◌, ◌*◌, List, [], replicate, None, Option, slice_index_or, slice_set}
use Rattle.exchanges.specs.Plane.{Plane, turn, carry, after}

-- a backplane, with what the boards have heard: place p * n + q is for what p heard from q
pub record Heard (I : Type 0) : Type 0 where
  pub plane : Plane I
  pub slots : List (Option I)

-- board s sends x to board d
abbrev pub receive : {I : Type 0} → ℕ → Option I → ℕ → Heard I → ℕ → Heard I
receive n x s h d = record {
  plane = after h.plane (carry s d x);
  slots = slice_set h.slots (d * n + s) (h.plane.answer [] s d x);
}

-- board s sends x to each board below the last number
abbrev pub to_each : {I : Type 0} → ℕ → Option I → ℕ → Heard I → ℕ → Heard I
to_each n x s h zero = h
to_each n x s h (suc d) = receive n x s (to_each n x s h d) d

-- each board below the last number sends what it has to all n
abbrev pub from_each : {I : Type 0} → ℕ → List (Option I) → Heard I → ℕ → Heard I
from_each n sent h zero = h
from_each n sent h (suc s) = to_each n (slice_index_or sent s None) s (from_each n sent h s) n

abbrev pub plain_run : {I : Type 0} → Plane I → List (Option I) → Heard I
plain_run b sent = from_each b.boards sent (record { plane = after b turn; slots = replicate (b.boards * b.boards) None }) b.boards
