use Rattle.std.proofs.Common.{rules, refl}
use Rattle.panel.specs.Slots.{is_slip}
use Rattle.panel.proofs.counting.times_heard.Goals as goal

pub returns : goal.returns
returns g c = c.votes.ensures (is_slip g.L.Ordered.order c.args.label c.args.phase) (refl, λ s b k. search rules)
