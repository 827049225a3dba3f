use Rattle.std.proofs.Common.{◌≡◌}
use Rattle.exchanges.specs.Lent.{GoesOn}
use Rattle.exchanges.specs.Slots.{reduced_down}
use Rattle.exchanges.proofs.trees.Trees.reduce_all.Given as goal

abbrev pub invariant-loop-j : goal.invariant-loop-j
invariant-loop-j g l =
    let s = l.initial.self.shape in
    GoesOn l.initial.self l.self × (l.self.slots.now ≡ reduced_down g.I.Item.same s.n s.t s.size l.initial.self.slots.now l.j)
