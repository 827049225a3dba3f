use Rattle.std.proofs.Common.{◌+◌, take, fold}
use Rattle.std.specs.List.{flat_map}
use Rattle.exchanges.specs.Lent.{RoundsGoOn}
use Rattle.exchanges.specs.Trees.{level}
use Rattle.exchanges.specs.Slots.{Worked, carried, hops_to}
use Rattle.exchanges.proofs.trees.Rounds.spread.Given as goal

abbrev pub invariant-loop-i : goal.invariant-loop-i
invariant-loop-i g l =
    let before = l.initial.self in
    let s = before.shape in
    RoundsGoOn before l.self × Worked (g.B.Backplane.plane l.self.plane.now) l.self.slots.now (fold (carried s.n s.size before.own.now) (record { plane = g.B.Backplane.plane before.plane.now; slots = before.slots.now }) (flat_map (hops_to s.n) (take l.i (level s.n (l.r + 1)))))
