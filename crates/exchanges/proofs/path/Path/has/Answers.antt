use Rattle.std.proofs.Common.{eqb, take, ◌∙◌, rules, tests, arith}
use Rattle.std.proofs.lemmas.Iterator.{YieldsList-from_slice}
use Rattle.std.proofs.lemmas.Iterator.Search.{any_from_yields_List}
use Rattle.exchanges.proofs.Trail.{on_taken}
use Rattle.exchanges.proofs.path.Path.has.Goals as goal

pub returns : goal.returns
returns c =
    let bs = c.args.self.boards in
    let k = c.args.self.len in
    any_from_yields_List (eqb c.args.q) _ _ c.any.result c.any.ensures.ran (YieldsList-from_slice (take k bs) cc) (λ x b q k. search (rules, tests)) ∙ on_taken c.args.q bs k (omega arith)
