use Rattle.std.proofs.Common.{◌≡◌, fold}
use Rattle.exchanges.specs.Lent.{GoesOn}
use Rattle.exchanges.specs.Slots.{trail, settle, spots_on}
use Rattle.exchanges.proofs.trees.Trees.reduce_on.Given as goal

abbrev pub invariant-loop-p : goal.invariant-loop-p
invariant-loop-p g l = GoesOn l.initial.self l.self × (l.self.slots.now ≡ fold (settle g.I.Item.same l.path.shape.n l.path.shape.t l.path.shape.size) l.initial.self.slots.now (spots_on l.p (trail l.path.boards l.path.len)))
