use Rattle.std.proofs.Common.{List, fold, Option, sym, ap, ◌∙◌, arith}
use Rattle.exchanges.specs.declared.path.Shape.{Shape}
use Rattle.exchanges.specs.Slots.{trail, settle, spots_on}
use Rattle.exchanges.proofs.Orders.{fold_more, level_all}
use Rattle.exchanges.proofs.trees.Trees.reduce_level.Goals as goal

pub loop-i-preserved : goal.loop-i-preserved
loop-i-preserved g c =
    let s = c.args.self.now.shape in
    let α = trail c.at.result.boards c.at.result.len in
    let settled = λ (x : Shape) (ws : List (Option g.row.I.Denot)). fold (settle g.I.Item.same x.n x.t x.size) ws (spots_on x.n α) in
    let i = c.loop-i.invariant in
    let k = c.reduce_on.ensures.kept in
    let alike = c.at.ensures.shape ∙ i.0.0 in (
      (k.0 ∙ i.0.0, k.1 ∙ i.0.1),
      c.reduce_on.ensures.slots ∙ (λ j. settled (alike j) (i.1 j)) ∙ sym (fold_more (spots_on s.n) c.at.result s c.args.k c.loop-i.i alike c.at.ensures.long c.at.ensures.placed (omega arith) (settle g.I.Item.same s.n s.t s.size) c.args.self.now.slots.now),
    )

pub returns-clause-slots : goal.returns-clause-slots
returns-clause-slots g c =
    let s = c.args.self.now.shape in
    c.loop-i.invariant.1 ∙ ap (fold (settle g.I.Item.same s.n s.t s.size) c.args.self.now.slots.now) (level_all (spots_on s.n) s.n c.args.k c.loop-i.i (omega arith))
