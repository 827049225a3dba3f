use Rattle.panel.specs.Modelled.{state}
use Rattle.panel.proofs.Told.{promised}
use Rattle.panel.proofs.held.Panel.verdict.Goals as goal

pub returns : goal.returns
returns g c = record { answer = c.held_verdict.ensures; promise = promised g.met.L.Ordered.total (state c.args.self.now) c.args.board c.held_verdict.result c.held_verdict.ensures }
