use Rattle.std.proofs.Common.{fold}
use Rattle.exchanges.specs.Lent.{RoundsGoOn}
use Rattle.exchanges.specs.Slots.{trail, Worked, carried, hops_from}
use Rattle.exchanges.proofs.trees.Rounds.send.Given as goal

abbrev pub invariant-loop-p : goal.invariant-loop-p
invariant-loop-p g l =
    let before = l.initial.self in
    RoundsGoOn before l.self × Worked (g.B.Backplane.plane l.self.plane.now) l.self.slots.now (fold (carried l.path.shape.n l.path.shape.size before.own.now) (record { plane = g.B.Backplane.plane before.plane.now; slots = before.slots.now }) (hops_from l.p (trail l.rest.boards l.rest.len) l.q))
