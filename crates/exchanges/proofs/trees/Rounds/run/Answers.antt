use Rattle.std.proofs.Common.{◌≡◌, ◌+◌, ◌*◌, ◌≤◌, List, ◌++◌, length, get_or, take, drop, None, Option, sym, ap, ◌∙◌, rules}
use Rattle.exchanges.specs.declared.path.Shape.{Shape}
use Rattle.exchanges.specs.Trees.{grid, filled, workspace}
use Rattle.exchanges.specs.Slots.{reduced_down}
use Rattle.exchanges.proofs.Slots.{room_alike}
use Rattle.exchanges.proofs.Heard.{grid_reduced, work_reduced}
use Rattle.exchanges.proofs.trees.Rounds.run.Goals as goal

pub returns-clause-heard : goal.returns-clause-heard
returns-clause-heard g c =
    let n = c.args.self.now.shape.n in
    let t = c.args.self.now.shape.t in
    let size = c.args.self.now.shape.size in
    let T = (filled n (t + 1) (g.B.Backplane.plane c.args.self.now.plane.now) (take n c.args.self.now.own.now)).trees in
    let roomy : n * size ≤ length c.gather.new.self.slots.now = room_alike c.args.self.now.shape c.gather.new.self.shape _ (sym c.gather.ensures.kept.0) c.gather.new.self.holds in
    let reduced : c.reduce_all.new.self.slots.now ≡ reduced_down g.I.Item.same n t size c.gather.new.self.slots.now t = search rules in
    let ws = c.reduce_all.new.self.slots.now in
    c.hear.ensures ∙ ap (λ (s : Shape). grid s.n (λ p q. get_or ws (p * s.size + q) None) ++ drop (s.n * s.n) c.args.heard.now) (c.reduce_all.ensures.kept.0 ∙ c.gather.ensures.kept.0) ∙ ap (λ (x : List (Option g.row.I.Denot)). x ++ drop (n * n) c.args.heard.now) (grid_reduced g.I.Item.same n t size c.args.self.now.shape.sized c.args.self.now.own.now c.gather.new.self.slots.now ws T c.gather.ensures.slots roomy reduced)

pub returns-clause-work : goal.returns-clause-work
returns-clause-work g c =
    let n = c.args.self.now.shape.n in
    let t = c.args.self.now.shape.t in
    let size = c.args.self.now.shape.size in
    let T = (filled n (t + 1) (g.B.Backplane.plane c.args.self.now.plane.now) (take n c.args.self.now.own.now)).trees in
    let roomy : n * size ≤ length c.gather.new.self.slots.now = room_alike c.args.self.now.shape c.gather.new.self.shape _ (sym c.gather.ensures.kept.0) c.gather.new.self.holds in
    let reduced : c.reduce_all.new.self.slots.now ≡ reduced_down g.I.Item.same n t size c.gather.new.self.slots.now t = search rules in
    let left : c.reduce_all.new.self.slots.now ≡ workspace g.I.Item.same n t T ++ drop (n * size) c.args.self.now.slots.now = work_reduced g.I.Item.same n t size c.args.self.now.shape.sized c.args.self.now.own.now c.args.self.now.slots.now c.gather.new.self.slots.now c.reduce_all.new.self.slots.now T c.gather.ensures.slots roomy reduced c.gather.ensures.behind in
    search rules
