use Rattle.script.proofs.Follow.{passed}
use Rattle.script.proofs.Putting.{row_more, row_stop}
use Rattle.script.proofs.rows.put_row.Goals as goal

pub returns-in_err-p : goal.returns-in_err-p
returns-in_err-p g c =
    row_stop g.R.Row.bytes c.args.list.now c.loop-x.x-index c.x-item.result c.loop-x-test.true c.x-item.is c.args.out.now c.loop-x.out _ c.args.at c.loop-x.p _ _ (passed c.from_residual.result _ c.from_residual.ensures.1) c.loop-x.invariant c.in_err-p.ensures

pub loop-x-preserved : goal.loop-x-preserved
loop-x-preserved g c =
    row_more g.R.Row.bytes c.args.list.now c.loop-x.x-index c.x-item.result c.loop-x-test.true c.x-item.is c.args.out.now c.loop-x.out _ c.args.at c.loop-x.p _ c.loop-x.invariant c.in_ok-p.ensures
