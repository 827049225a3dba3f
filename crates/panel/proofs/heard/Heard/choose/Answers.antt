use Rattle.std.proofs.Common.{◌≡◌, ◌-◌, ◌<◌, ◌≤◌, None, rules, tests, refl, sym, ap, ◌∙◌, arith}
use Rattle.exchanges.specs.Boards.{count}
use Rattle.panel.specs.Slots.{label_of}
use Rattle.panel.specs.Phase.{unphased, standing}
use Rattle.panel.specs.Votes.{rows}
use Rattle.panel.proofs.Tests.{count_part, most_part, choice_none, choice_most}
use Rattle.panel.proofs.heard.Heard.choose.Goals as goal

pub returns-then-open-n : goal.returns-then-open-n
returns-then-open-n g c =
    let self = c.args.self.now in
    let n = self.size.boards in
    let t = self.size.faults in
    let none : standing g.L.Ordered.order n t (rows self 0) (rows self) ≡ None = sym c.best_standing.ensures ∙ c.in_default.is in
    let many : c.votes-open.result ≡ count (λ q. unphased (rows self 0 q)) n = c.votes-open.ensures unphased (refl, λ s b k. search rules) ∙ count_part n _ _ c.row-claims.ensures unphased refl in
    let few : count (λ q. unphased (rows self 0 q)) n < n - t = omega (arith, c.n.ensures, c.t.ensures, c.if-open-n.true) in
    sym (choice_none g.L.Ordered.order n t (rows self 0) (rows self) none few)

pub returns : goal.returns
returns g c =
    let self = c.args.self.now in
    let n = self.size.boards in
    let t = self.size.faults in
    let none : standing g.L.Ordered.order n t (rows self 0) (rows self) ≡ None = sym c.best_standing.ensures ∙ c.in_default.is in
    let many : c.votes-open.result ≡ count (λ q. unphased (rows self 0 q)) n = c.votes-open.ensures unphased (refl, λ s b k. search rules) ∙ count_part n _ _ c.row-claims.ensures unphased refl in
    let enough : n - t ≤ count (λ q. unphased (rows self 0 q)) n = omega (arith, c.n.ensures, c.t.ensures, c.if-open-n.false) in
    let label : c.map.result ≡ label_of c.most_common.result = search (rules, tests) in
    label ∙ (ap label_of (c.most_common.ensures ∙ most_part n _ _ c.row-claims.ensures g.L.Ordered.order) ∙ sym (choice_most g.L.Ordered.order n t (rows self 0) (rows self) none enough))
