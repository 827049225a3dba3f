use Rattle.std.proofs.Common.{◌*◌, drop}
use Rattle.exchanges.specs.Lent.{RoundsGoOn}
use Rattle.exchanges.specs.Trees.{fill}
use Rattle.exchanges.proofs.Stand.{Agrees}
use Rattle.exchanges.proofs.Whole.{first}
use Rattle.exchanges.proofs.trees.Rounds.gather.Given as goal

abbrev pub invariant-loop-r : goal.invariant-loop-r
invariant-loop-r g l =
    let before = l.initial.self in
    let s = before.shape in
    let own = before.own.now in
    let ws = before.slots.now in
    RoundsGoOn before l.self × Agrees s.n s.t s.size own (drop (s.n * s.size) ws) (record { plane = g.B.Backplane.plane l.self.plane.now; slots = l.self.slots.now }) (fill s.n l.r (first s.n s.t s.size own (g.B.Backplane.plane before.plane.now) ws))
