use Rattle.std.proofs.Common.{List, sym, ap, ◌∙◌, subst, arith, rules}
use Rattle.exchanges.specs.Trees.{IsPath, rank}
use Rattle.exchanges.proofs.Trail.{more_of}
use Rattle.exchanges.proofs.Slots.{trail_add}
use Rattle.exchanges.proofs.path.Path.add.Goals as goal

pub overflow_mul-result : goal.overflow_mul-result
overflow_mul-result c = omega (arith, (more_of c.args.self c.args.i c.other.result c.requires.short c.other.ensures.board c.other.ensures.off c.other.ensures.next).small)

pub overflow_add-result-2 : goal.overflow_add-result-2
overflow_add-result-2 c = omega (arith, (more_of c.args.self c.args.i c.other.result c.requires.short c.other.ensures.board c.other.ensures.off c.other.ensures.next).small)

pub invariant_of-result-clause-differ : goal.invariant_of-result-clause-differ
invariant_of-result-clause-differ c =
    let more = more_of c.args.self c.args.i c.other.result c.requires.short c.other.ensures.board c.other.ensures.off c.other.ensures.next in
    let added = trail_add c.args.self.boards c.args.self.len c.other.result (search rules) in
    subst (λ (β : List _). IsPath c.args.self.shape.n β) (sym added) more.whole

pub invariant_of-result-clause-placed : goal.invariant_of-result-clause-placed
invariant_of-result-clause-placed c =
    let more = more_of c.args.self c.args.i c.other.result c.requires.short c.other.ensures.board c.other.ensures.off c.other.ensures.next in
    let added = trail_add c.args.self.boards c.args.self.len c.other.result (search rules) in
    more.index ∙ ap (rank c.args.self.shape.n) (sym added)
