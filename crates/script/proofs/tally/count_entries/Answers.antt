use Rattle.std.proofs.Common.{◌∙◌, arith}
use Rattle.script.proofs.Follow.{passed}
use Rattle.script.proofs.Counting.{counting_more, counting_fault, counting_all}
use Rattle.script.proofs.tally.count_entries.Goals as goal

pub returns-in_err-note : goal.returns-in_err-note
returns-in_err-note g c =
    passed c.from_residual.result _ c.from_residual.ensures.1 ∙ counting_fault g.met.L.Label.own c.loop-p.invariant c.loop-p-test.true c.in_err-note.ensures

pub loop-p-smaller : goal.loop-p-smaller
loop-p-smaller g c =
    let m = counting_more g.met.L.Label.own c.loop-p.invariant c.loop-p-test.true c.in_ok-note.ensures in
    omega (arith, m.0, m.1, c.loop-p-test.true)

pub loop-p-preserved : goal.loop-p-preserved
loop-p-preserved g c =
    let m = counting_more g.met.L.Label.own c.loop-p.invariant c.loop-p-test.true c.in_ok-note.ensures in
    m.3 _ _ c.map_count-slips.ensures.value c.turn-last.ensures

pub returns : goal.returns
returns g c = counting_all c.loop-p.invariant c.loop-p-test.false
