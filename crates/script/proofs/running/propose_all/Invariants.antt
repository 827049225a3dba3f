use Rattle.std.proofs.Common.{take}
use Rattle.panel.specs.Modelled.{state}
use Rattle.script.specs.Runs.{proposing}
use Rattle.script.proofs.Courses.{Going}
use Rattle.script.proofs.running.propose_all.Given as goal

abbrev pub invariant-loop-board : goal.invariant-loop-board
invariant-loop-board g l = Going g.L.Ordered.order (state l.initial.panel) (proposing 0 (take l.board l.proposals)) (state l.panel)
