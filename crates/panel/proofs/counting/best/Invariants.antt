use Rattle.std.proofs.Common.{◌≡◌, Bool}
use Rattle.labels.specs.declared.slip.Slip.{Slip}
use Rattle.panel.specs.Phase.{best, only}
use Rattle.panel.specs.Votes.{row_of, Tells, Beats}
use Rattle.panel.proofs.counting.best.Given as goal

abbrev pub invariant-loop-slot : goal.invariant-loop-slot
invariant-loop-slot g l = (P : Slip g.row.L.Denot → Bool) (R : Slip g.row.L.Denot → Slip g.row.L.Denot → Bool) → Tells (goal.F-post g l.test) P → Beats (goal.G-post g l.beats) R → l.top ≡ best R (λ q. only P (row_of l.row q)) l.slot-index
