use Rattle.std.proofs.Common.{◌≡◌, rules, refl, ◌∙◌}
use Rattle.exchanges.specs.Boards.{count}
use Rattle.panel.specs.Phase.{supports}
use Rattle.panel.specs.Votes.{rows}
use Rattle.panel.proofs.Tests.{count_part}
use Rattle.panel.proofs.heard.Heard.is_backed.Goals as goal

pub returns : goal.returns
returns g c =
    let self = c.args.self.now in
    let test = supports g.L.Ordered.order c.args.s.label c.args.s.phase in
    let e : c.votes-backers.result ≡ count (λ q. test (rows self 0 q)) self.size.boards =
    c.votes-backers.ensures test (refl, λ s b k. search rules) ∙ count_part self.size.boards _ _ c.row-claims.ensures test refl in
    cc
