use Rattle.std.proofs.Common.{length, rules, ◌∙◌}
use Rattle.panel.specs.Phase.{later, heard_enough}
use Rattle.panel.specs.Votes.{row_of}
use Rattle.panel.proofs.Tests.{often_part}
use Rattle.panel.proofs.heard.Heard.often.Goals as goal

pub returns : goal.returns
returns g c =
    let o = g.L.Ordered.order in
    let row = c.row-row.result.now in
    c.best.ensures (heard_enough o (length row) c.args.many c.args.phase (row_of row)) (later o) (λ s b k. search rules) (λ s r b k. search rules)
    ∙ often_part c.args.self.now.size.boards _ row c.row-row.ensures o c.args.many c.args.phase
