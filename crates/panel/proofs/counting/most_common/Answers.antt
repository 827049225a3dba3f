use Rattle.std.proofs.Common.{true, length, rules, ◌∙◌}
use Rattle.panel.specs.Phase.{ahead, wins_often, times}
use Rattle.panel.specs.Votes.{row_of}
use Rattle.panel.proofs.Tests.{best_each}
use Rattle.panel.proofs.counting.most_common.Goals as goal

pub returns : goal.returns
returns g c =
    let row = c.args.row.now in
    c.best.ensures (λ s. true) (ahead (wins_often g.L.Ordered.order) (λ s. times g.L.Ordered.order (length row) (row_of row) s.label)) (λ s b k. search rules) (λ s r b k. search rules) ∙ best_each _ (row_of row) (length row)
