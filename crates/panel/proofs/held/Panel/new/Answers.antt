use Rattle.std.proofs.Common.{refl}
use Rattle.panel.proofs.Choosing.{lawful}
use Rattle.panel.proofs.Examples.{right}
use Rattle.panel.proofs.held.Panel.new.Goals as goal

pub returns : goal.returns
returns g c = record { made = refl; laws = lawful g.met.L.Ordered.total; worked = right }
