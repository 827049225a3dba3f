use Rattle.std.proofs.Common.{ℕ, is_some, ap, ◌∙◌, rules, arith}
use Rattle.std.specs.List.{range_with_len}
use Rattle.std.proofs.lemmas.Iterator.{YieldsList-from_range}
use Rattle.std.proofs.lemmas.Iterator.Consumers.{count_from_yields_List, YieldsList-from_filter}
use Rattle.std.proofs.lemmas.List.Sums.{length-filter}
use Rattle.exchanges.specs.Boards.{count}
use Rattle.panel.specs.Panel.{at}
use Rattle.panel.proofs.Tests.{count_range}
use Rattle.panel.proofs.held.Panel.proposed.Goals as goal

pub returns : goal.returns
returns g c =
    let P = λ (q : ℕ). is_some (at c.args.self.now.slots.now q 0) in
    let n = c.n.result in
    count_from_yields_List c.filter.result _ c.count.ensures.ran (YieldsList-from_filter _ P (YieldsList-from_range 0 n n (cc) (omega arith)) c.filter.ensures.closure (λ x b q k. search rules))
    ∙ (length-filter P (range_with_len 0 n) ∙ (count_range P n ∙ ap (count P) c.n.ensures))
