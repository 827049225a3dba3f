use Rattle.std.proofs.Common.{◌≡◌, ◌-◌, sym, ap, ◌∙◌, arith}
use Rattle.exchanges.specs.Slots.{trail}
use Rattle.exchanges.specs.Trees.{rank}
use Rattle.exchanges.proofs.Trail.{parts_of}
use Rattle.exchanges.proofs.path.Path.split.Goals as goal
use Rattle.exchanges.proofs.path.Path.split.Goals.{then-len-eq0, else-len-eq0}

pub invariant_of-rest-clause-differ : goal.invariant_of-rest-clause-differ
invariant_of-rest-clause-differ c = (parts_of c.args.self (c.args.self.len - 1) (omega arith)).rest

pub invariant_of-rest-clause-placed : goal.invariant_of-rest-clause-placed
invariant_of-rest-clause-placed c =
    let len = c.args.self.len - 1 in
    elim c.if-len-eq0.branch [
      | then-len-eq0 w ↦ (let none : len ≡ 0 = omega arith in w.rest-is ∙ sym (ap (λ k. rank c.args.self.shape.n (trail c.args.self.boards k)) none))
      | else-len-eq0 w ↦ w.rest-is ∙ (parts_of c.args.self len (omega arith)).index
    ]
