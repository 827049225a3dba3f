use Rattle.std.proofs.Common.{◌≡◌, ◌++◌, map, take, drop}
use Rattle.panel.specs.Phase.{as_claim}
use Rattle.panel.proofs.memory.keep_claims.Given as goal

abbrev pub invariant-loop-slot : goal.invariant-loop-slot
invariant-loop-slot g l = l.heard ≡ map (as_claim l.phase) (take l.slot-index l.initial.heard) ++ drop l.slot-index l.initial.heard
