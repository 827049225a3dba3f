use Rattle.labels.proofs.Trips.{trips}
use Rattle.labels.proofs.reading.read_label.Goals as goal

pub returns-then-saturating_sub-width-clause-trips : goal.returns-then-saturating_sub-width-clause-trips
returns-then-saturating_sub-width-clause-trips g c = trips g.L.Label.coding g.met.L.Label.own

pub returns-in_err-label-clause-trips : goal.returns-in_err-label-clause-trips
returns-in_err-label-clause-trips g c = trips g.L.Label.coding g.met.L.Label.own

pub returns-clause-trips : goal.returns-clause-trips
returns-clause-trips g c = trips g.L.Label.coding g.met.L.Label.own
