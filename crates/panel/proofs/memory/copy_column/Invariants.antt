use Rattle.std.proofs.Common.{◌≡◌, ℕ, ◌+◌, ◌*◌, ◌<◌, get_or, None}
use Rattle.panel.proofs.memory.copy_column.Given as goal

abbrev pub invariant-loop-q : goal.invariant-loop-q
invariant-loop-q g l = (i : ℕ) → i < l.q → get_or l.slot-items i None ≡ get_or l.slots (10 * i + l.place) None
