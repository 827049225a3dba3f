use Rattle.labels.proofs.Smalls.{Best}
use Rattle.labels.proofs.smallest.smallest.Given as goal

abbrev pub invariant-loop-i : goal.invariant-loop-i
invariant-loop-i g l = Best g.L.Ordered.order l.labels l.i l.best
