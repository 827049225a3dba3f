use Rattle.std.proofs.Common.{◌≡◌, take}
use Rattle.panel.specs.Modelled.{state}
use Rattle.script.specs.Runs.{verdicts}
use Rattle.script.proofs.running.tell_verdicts.Given as goal

abbrev pub invariant-loop-board : goal.invariant-loop-board
invariant-loop-board g l = take l.board l.told ≡ verdicts l.board (state l.panel)
