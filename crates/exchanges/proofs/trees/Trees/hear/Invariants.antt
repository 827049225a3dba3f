use Rattle.std.proofs.Common.{◌≡◌, ◌*◌, ◌++◌, map, drop}
use Rattle.std.specs.List.{range_with_len}
use Rattle.exchanges.proofs.Heard.{cell}
use Rattle.exchanges.proofs.trees.Trees.hear.Given as goal

abbrev pub invariant-loop-p : goal.invariant-loop-p
invariant-loop-p g l =
    let s = l.self.shape in
    l.heard ≡ map (cell s.n s.size l.self.slots.now) (range_with_len 0 (l.p * s.n)) ++ drop (l.p * s.n) l.initial.heard
