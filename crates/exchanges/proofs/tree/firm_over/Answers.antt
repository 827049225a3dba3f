use Rattle.std.proofs.Common.{◌≡◌, ℕ, ◌+◌, ◌*◌, Bool, cond, ◌||◌, ltb, length, None, ◌∙◌, subst, rules}
use Rattle.exchanges.specs.Boards.{fits}
use Rattle.exchanges.specs.Asked.{short, due}
use Rattle.exchanges.specs.Trees.{tree_size}
use Rattle.exchanges.proofs.Dues.{none_due}
use Rattle.exchanges.proofs.Firms.{Done, done_at}
use Rattle.exchanges.proofs.tree.firm_over.Goals as goal

pub returns-clause-ran : goal.returns-clause-ran
returns-clause-ran g c =
    let plane = g.B.Backplane.plane in
    let same = g.I.Item.same in
    let b = plane c.args.b.now in
    let f = c.args.faults in
    let s = c.args.sent.now in
    let h = c.args.heard.now in
    let w = c.args.work.now in
    let n = c.new.result.n in
    let t = c.new.result.t in
    let sh : ℕ → Bool = λ m. short m s h || ltb (length w) (cond (fits m f) (m * tree_size m f) 0) in
    let none = none_due c.boards-boards.result b.boards f c.round.result b.round (c.from.result + 1) sh c.lacks_room-short.result c.boards-boards.ensures c.lacks_room-short.ensures c.round.ensures c.in_ok-size.ensures.0 in
    let run : Done same b (plane c.run.new.self.plane.now) s h c.run.new.heard n t = record { plane = c.run.ensures.plane; heard = c.run.ensures.heard } in
    let done = done_at same b (plane c.run.new.self.plane.now) s h c.run.new.heard n b.boards t f (c.new.ensures.0 ∙ c.in_ok-size.ensures.1 ∙ c.boards-boards.ensures) (c.new.ensures.1 ∙ c.in_ok-size.ensures.2) run in
    let plane_is = done.plane in
    (subst (λ (k : ℕ). due b.boards f (sh b.boards) b.round (k + 1) ≡ None) c.from.ensures none, search rules, done.heard)
