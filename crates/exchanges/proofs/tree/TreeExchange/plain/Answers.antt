use Rattle.std.proofs.Common.{refl}
use Rattle.exchanges.specs.Trees.{tree_way, tree_exchange}
use Rattle.exchanges.specs.Keep.{tree_well}
use Rattle.exchanges.proofs.Asks.{plain_asked}
use Rattle.exchanges.proofs.tree.TreeExchange.plain.Goals as goal

pub returns : goal.returns
returns g c =
    let same = g.I.Item.same in
    let plane = g.B.Backplane.plane in
    let t = c.args.self.now.faults in
    plain_asked (tree_way same t) (tree_well same g.met.I.Item.tells t) plane (tree_exchange same plane) (λ b. record { plane = b; faults = t }) (λ b. refl) c.args.self.now.plane c.plain_over.new.b c.args.sent.now c.args.heard.now c.plain_over.new.heard c.plain_over.result c.plain_over.ensures
