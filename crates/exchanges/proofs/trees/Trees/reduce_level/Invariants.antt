use Rattle.std.proofs.Common.{◌≡◌, take, fold}
use Rattle.std.specs.List.{flat_map}
use Rattle.exchanges.specs.Lent.{GoesOn}
use Rattle.exchanges.specs.Trees.{level}
use Rattle.exchanges.specs.Slots.{settle, spots_on}
use Rattle.exchanges.proofs.trees.Trees.reduce_level.Given as goal

abbrev pub invariant-loop-i : goal.invariant-loop-i
invariant-loop-i g l =
    let s = l.initial.self.shape in
    GoesOn l.initial.self l.self × (l.self.slots.now ≡ fold (settle g.I.Item.same s.n s.t s.size) l.initial.self.slots.now (flat_map (spots_on s.n) (take l.i (level s.n l.k))))
