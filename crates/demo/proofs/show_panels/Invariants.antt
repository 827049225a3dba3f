-- Each panel takes its two first bytes from the rest of the input, and its labels after them.
use Rattle.std.proofs.Common.{length}
use Rattle.demo.proofs.show_panels.Given as goal

abbrev pub decreases-loop-rest : goal.decreases-loop-rest
decreases-loop-rest l = length l.rest
