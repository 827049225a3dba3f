use Rattle.std.proofs.Common.{◌≡◌}
use Rattle.panel.specs.Panel.{after_asks, firsts}
use Rattle.panel.specs.Steps.{Filled}
use Rattle.panel.specs.Runs.{GoesOn}
use Rattle.panel.proofs.run.Run.hear_all.Given as goal

abbrev pub invariant-loop-g : goal.invariant-loop-g
invariant-loop-g g l =
    let before = l.initial.self in
    let x = g.E.Exchange.meaning before.exchange.now in
    let n = before.phase.size.boards in
    GoesOn before l.self × (g.E.Exchange.meaning l.self.exchange.now ≡ after_asks x (firsts n l.slots l.g)) × Filled x n l.slots l.g l.self.blocks.now
