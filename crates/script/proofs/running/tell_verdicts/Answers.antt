use Rattle.std.proofs.Common.{arith}
use Rattle.panel.specs.Slots.{label_of}
use Rattle.panel.specs.Panel.{at, verdict_place}
use Rattle.panel.specs.Modelled.{state}
use Rattle.script.proofs.Courses.{told_more}
use Rattle.script.proofs.running.tell_verdicts.Goals as goal

pub loop-board-preserved : goal.loop-board-preserved
loop-board-preserved g c =
    told_more (λ q. label_of (at (state c.args.panel.now).slots q verdict_place)) c.loop-board.told c.loop-board.board _ (omega arith) c.loop-board.invariant c.verdict_of.ensures
