use Rattle.std.proofs.Common.{rules, refl}
use Rattle.panel.specs.Slots.{has_label}
use Rattle.panel.proofs.counting.times_said.Goals as goal

pub returns : goal.returns
returns g c = c.votes.ensures (has_label g.L.Ordered.order c.args.label) (refl, λ s b k. search rules)
