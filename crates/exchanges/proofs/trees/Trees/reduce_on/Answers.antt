use Rattle.std.proofs.Common.{List, fold, Option, sym, ap, ◌∙◌, arith}
use Rattle.std.proofs.lemmas.List.Sums.{fold_push}
use Rattle.std.proofs.lemmas.List.FromFn.{map-range_with_len_more}
use Rattle.exchanges.specs.Slots.{trail, Spot, settle, spots_on}
use Rattle.exchanges.proofs.trees.Trees.reduce_on.Goals as goal

pub loop-p-preserved : goal.loop-p-preserved
loop-p-preserved g c =
    let α = trail c.args.path.boards c.args.path.len in
    let ws = c.args.self.now.slots.now in
    let f = settle g.I.Item.same c.args.path.shape.n c.args.path.shape.t c.args.path.shape.size in
    let p = c.loop-p.p in
    let i = c.loop-p.invariant in
    let k = c.reduce_at.ensures.kept in (
      (k.0 ∙ i.0.0, k.1 ∙ i.0.1),
      c.reduce_at.ensures.slots ∙ ap (λ (ws : List (Option g.row.I.Denot)). f ws (record { board = p; path = α })) i.1 ∙ sym (ap (fold f ws) (map-range_with_len_more {X = Spot} (λ x. record { board = x; path = α }) 0 p p (omega arith)) ∙ fold_push f ws (spots_on p α) (record { board = p; path = α })),
    )
