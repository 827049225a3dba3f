use Rattle.std.proofs.Common.{◌≡◌, refl, ap, ◌∙◌}
use Rattle.exchanges.specs.Boards.{count}
use Rattle.panel.specs.Slots.{is_slip}
use Rattle.panel.specs.Votes.{rows}
use Rattle.panel.proofs.Tests.{count_part}
use Rattle.panel.proofs.heard.Heard.is_picked.Goals as goal

pub returns : goal.returns
returns g c =
    let self = c.args.self.now in
    let n = self.size.boards in
    let test = is_slip g.L.Ordered.order c.args.s.label c.args.s.phase in
    let e : c.times_heard.result ≡ count (λ q. test (rows self c.args.s.phase q)) n =
    c.times_heard.ensures ∙ (count_part n _ _ c.row-picks.ensures test refl ∙ ap (λ k. count (λ q. test (rows self k q)) n) c.from.ensures) in
    cc
