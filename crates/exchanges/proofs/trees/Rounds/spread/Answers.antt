use Rattle.std.proofs.Common.{◌+◌, List, take, fold, sym, ◌∙◌, subst, arith}
use Rattle.std.specs.List.{flat_map}
use Rattle.exchanges.specs.declared.path.Shape.{Shape}
use Rattle.exchanges.specs.Trees.{Hop, level}
use Rattle.exchanges.specs.Slots.{trail, Work, Worked, carried, hops_to}
use Rattle.exchanges.proofs.Orders.{work_on, fold_more, level_all, hops_level}
use Rattle.exchanges.proofs.trees.Rounds.spread.Goals as goal

pub loop-i-preserved : goal.loop-i-preserved
loop-i-preserved g c =
    let plane = g.B.Backplane.plane in
    let s = c.args.self.now.shape in
    let α = trail c.at.result.boards c.at.result.len in
    let own = c.args.self.now.own.now in
    let i = c.loop-i.invariant in
    let k = c.send.ensures.kept in
    let b = plane c.loop-i.self.plane.now in
    let ws = c.loop-i.self.slots.now in
    let b' = plane c.send.new.self.plane.now in
    let ws' = c.send.new.self.slots.now in
    let w : Work g.row.I.Denot = record { plane = plane c.args.self.now.plane.now; slots = c.args.self.now.slots.now } in
    let w' : Work g.row.I.Denot = record { plane = b; slots = ws } in
    let f = carried s.n s.size own in
    let shaped = subst (λ (x : Shape). Worked b' ws' (fold (carried x.n x.size c.loop-i.self.own.now) w' (hops_to x.n α))) c.at.ensures.shape c.send.ensures.made in
    let made = subst (λ o. Worked b' ws' (fold (carried s.n s.size o.now) w' (hops_to s.n α))) i.0.1 shaped in (
      (k.0 ∙ i.0.0, k.1 ∙ i.0.1, k.2 ∙ i.0.2, k.3 ∙ i.0.3),
      subst (Worked b' ws') (sym (fold_more (hops_to s.n) c.at.result s (c.args.r + 1) c.loop-i.i c.at.ensures.shape c.at.ensures.long c.at.ensures.placed (omega arith) f w)) (work_on f b b' ws ws' (fold f w (flat_map (hops_to s.n) (take c.loop-i.i (level s.n (c.args.r + 1))))) (hops_to s.n α) i.1 made),
    )

pub returns-clause-made : goal.returns-clause-made
returns-clause-made g c =
    let s = c.args.self.now.shape in
    let w : Work g.row.I.Denot = record { plane = g.B.Backplane.plane c.args.self.now.plane.now; slots = c.args.self.now.slots.now } in
    let W = λ (hs : List Hop). Worked (g.B.Backplane.plane c.loop-i.self.plane.now) c.loop-i.self.slots.now (fold (carried s.n s.size c.args.self.now.own.now) w hs) in
    subst W (level_all (hops_to s.n) s.n (c.args.r + 1) c.loop-i.i (omega arith) ∙ hops_level s.n c.args.r) c.loop-i.invariant.1
