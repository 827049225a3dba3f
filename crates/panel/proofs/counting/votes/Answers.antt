use Rattle.std.proofs.Common.{rules, None, ◌∙◌}
use Rattle.std.proofs.lemmas.Iterator.{YieldsList-from_slice}
use Rattle.std.proofs.lemmas.Iterator.Consumers.{count_from_yields_List, YieldsList-from_filter}
use Rattle.std.proofs.lemmas.List.Sums.{length-filter}
use Rattle.panel.proofs.Tests.{told, count_along}
use Rattle.panel.proofs.counting.votes.Goals as goal

pub returns : goal.returns
returns g c = λ T h.
    let row = c.args.row.now in
    count_from_yields_List c.filter.result _ c.count.ensures.ran (YieldsList-from_filter _ T (YieldsList-from_slice row cc) c.filter.ensures.closure (λ x b q k. (search rules, told _ T x.now b h (search rules))))
    ∙ (length-filter T row ∙ count_along T row None)
