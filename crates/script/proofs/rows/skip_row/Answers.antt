use Rattle.std.proofs.Common.{sym, ◌∙◌}
use Rattle.script.proofs.Loops.{placed_more}
use Rattle.script.proofs.rows.skip_row.Goals as goal

pub loop-i-preserved : goal.loop-i-preserved
loop-i-preserved g c =
    c.loop-i.invariant ∙ placed_more g.R.Row.reader c.args.b.now c.args.n c.loop-i._i c.loop-i.p c.loop-i-test.true _ _ (sym c.in_ok-_x.ensures)
