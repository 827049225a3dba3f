use Rattle.std.proofs.Common.{rules, ◌∙◌}
use Rattle.panel.specs.Phase.{later, stands}
use Rattle.panel.specs.Votes.{rows}
use Rattle.panel.proofs.Tests.{best_part}
use Rattle.panel.proofs.heard.Heard.best_standing.Goals as goal

pub returns : goal.returns
returns g c =
    let self = c.args.self.now in
    let n = self.size.boards in
    let o = g.L.Ordered.order in
    let test = stands o n self.size.faults (rows self 0) (rows self) in
    c.best.ensures test (later o) (λ s b k. search rules) (λ s r b k. search rules) ∙ best_part n _ _ c.row-claims.ensures (later o) test
