use Rattle.std.proofs.Common.{◌≡◌, length}
use Rattle.panel.specs.Panel.{sizes}
use Rattle.panel.specs.Modelled.{state}
use Rattle.script.specs.Runs.{phases}
use Rattle.script.proofs.Courses.{Going}
use Rattle.script.proofs.running.run_phases.Given as goal

abbrev pub invariant-loop-i : goal.invariant-loop-i
invariant-loop-i g l =
    let o = g.L.Ordered.order in
    let s = state l.initial.panel in
    let c = phases o (sizes (length l.initial.heard) (length l.initial.picks) (length l.initial.work)) s (g.E.Exchange.meaning l.initial.exchange) l._i in
    Going o s c.calls (state l.panel) × (g.E.Exchange.meaning l.exchange ≡ c.exchange)
