use Rattle.std.proofs.Common.{◌+◌, take, arith}
use Rattle.panel.specs.Modelled.{state}
use Rattle.panel.specs.Panel.{propose}
use Rattle.script.specs.Runs.{proposing}
use Rattle.script.proofs.Courses.{one_more, one_stops, went_err, proposing_more, proposing_on}
use Rattle.script.proofs.running.propose_all.Goals as goal

pub returns-in_err-propose : goal.returns-in_err-propose
returns-in_err-propose g c =
    let o = g.L.Ordered.order in
    let s = state c.args.panel.now in
    let vs = c.args.proposals.now in
    let i = c.loop-board.board in
    let v = c.index-proposals-board.result in
    let more = proposing_more vs i v (omega arith) c.index-proposals-board.is in
    went_err o s (proposing 0 vs) _ c.from_residual.result _ c.from_residual.ensures.1
    (one_stops o s (proposing 0 (take i vs)) (proposing 0 (take (i + 1) vs)) (proposing 0 vs) (propose i v) (state c.loop-board.panel) _ c.loop-board.invariant more (proposing_on vs (i + 1)) c.in_err-propose.ensures.answer)

pub loop-board-preserved : goal.loop-board-preserved
loop-board-preserved g c =
    let vs = c.args.proposals.now in
    let i = c.loop-board.board in
    let v = c.index-proposals-board.result in
    let more = proposing_more vs i v (omega arith) c.index-proposals-board.is in
    one_more g.L.Ordered.order (state c.args.panel.now) (proposing 0 (take i vs)) (proposing 0 (take (i + 1) vs)) (propose i v) (state c.loop-board.panel) _ c.loop-board.invariant more c.in_ok-propose.ensures.answer c.in_ok-propose.ensures.next
