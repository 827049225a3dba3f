use Rattle.std.proofs.Common.{refl}
use Rattle.exchanges.specs.Trees.{tree_way, tree_exchange}
use Rattle.exchanges.specs.Keep.{tree_well}
use Rattle.exchanges.proofs.Asks.{firm_asked}
use Rattle.exchanges.proofs.Firms.{left_kept}
use Rattle.exchanges.proofs.TreeLaws.{tree_laws}
use Rattle.exchanges.proofs.tree.TreeExchange.firm.Goals as goal

pub returns-clause-laws : goal.returns-clause-laws
returns-clause-laws g c = tree_laws

pub returns-clause-asked : goal.returns-clause-asked
returns-clause-asked g c =
    let same = g.I.Item.same in
    let plane = g.B.Backplane.plane in
    let t = c.args.self.now.faults in
    let b = c.args.self.now.plane in
    let b' = c.firm_over.new.b in
    let s = c.args.sent.now in
    let h = c.args.heard.now in
    let h' = c.firm_over.new.heard in
    let w = c.args.work.now in
    let w' = c.firm_over.new.work in
    let r = c.firm_over.result in
    firm_asked (tree_way same t) (tree_well same g.met.I.Item.tells t) plane (tree_exchange same plane) (λ b. record { plane = b; faults = t }) (λ b. refl) b b' s h h' w w' r c.firm_over.ensures.ran (left_kept same t plane b b' s h h' w w' r c.firm_over.ensures.ran c.firm_over.ensures.left c.firm_over.auto.work)
