use Rattle.panel.proofs.Loops.{mapping_more, mapping_all}
use Rattle.panel.proofs.memory.keep_claims.Goals as goal

pub loop-slot-preserved : goal.loop-slot-preserved
loop-slot-preserved g c = let h = c.slot-item.is in let k = c.counted_claim.ensures in mapping_more _ _ _ _ _ _ c.loop-slot.invariant c.loop-slot-test.true h k

pub returns : goal.returns
returns g c = mapping_all _ _ _ _ c.loop-slot.invariant c.loop-slot-test.false
