use Rattle.std.proofs.Common.{length, sym}
use Rattle.script.proofs.Follow.{passed}
use Rattle.script.proofs.Loops.{filled_more, filled_fault}
use Rattle.script.proofs.rows.fill_row.Goals as goal

pub returns-in_err-x : goal.returns-in_err-x
returns-in_err-x g c =
    filled_fault g.R.Row.reader c.args.b.now (length c.args.list.now) c.loop-slot.slot-index c.loop-slot.p c.loop-slot-test.true _ c.loop-slot.list _ _ _ (sym c.in_err-x.ensures) c.loop-slot.invariant (passed c.from_residual.result _ c.from_residual.ensures.1)

pub loop-slot-preserved : goal.loop-slot-preserved
loop-slot-preserved g c =
    filled_more g.R.Row.reader c.args.b.now (length c.args.list.now) c.loop-slot.slot-index c.loop-slot.p c.loop-slot-test.true c.in_ok-x.x c.in_ok-x.q c.loop-slot.list _ c.loop-slot.auto.list (sym c.in_ok-x.ensures) c.loop-slot.invariant
