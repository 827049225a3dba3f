use Rattle.std.proofs.Common.{length}
use Rattle.panel.specs.Modelled.{state}
use Rattle.panel.specs.Panel.{sizes}
use Rattle.script.specs.Runs.{phases}
use Rattle.script.proofs.Courses.{went_err, phase_more, phase_stops}
use Rattle.script.proofs.running.run_phases.Goals as goal

pub returns-in_err-phase : goal.returns-in_err-phase
returns-in_err-phase g c =
    let o = g.L.Ordered.order in
    let s = state c.args.panel.now in
    let x = g.E.Exchange.meaning c.args.exchange.now in
    let l = sizes (length c.args.heard.now) (length c.args.picks.now) (length c.args.work.now) in
    went_err o s (phases o l s x c.args.count).calls _ c.from_residual.result _ c.from_residual.ensures.1
    (phase_stops o (length c.args.heard.now) (length c.args.picks.now) (length c.args.work.now) (length c.loop-i.heard) (length c.loop-i.picks) (length c.loop-i.work) c.loop-i.auto.heard c.loop-i.auto.picks c.loop-i.auto.work s x c.loop-i._i c.args.count c.loop-i-test.true (state c.loop-i.panel) (g.E.Exchange.meaning c.loop-i.exchange) _ c.loop-i.invariant c.in_err-phase.ensures.answer)

pub loop-i-preserved : goal.loop-i-preserved
loop-i-preserved g c =
    let o = g.L.Ordered.order in
    let s = state c.args.panel.now in
    let x = g.E.Exchange.meaning c.args.exchange.now in
    phase_more o (length c.args.heard.now) (length c.args.picks.now) (length c.args.work.now) (length c.loop-i.heard) (length c.loop-i.picks) (length c.loop-i.work) c.loop-i.auto.heard c.loop-i.auto.picks c.loop-i.auto.work s x c.loop-i._i (state c.loop-i.panel) (g.E.Exchange.meaning c.loop-i.exchange) _ _ c.loop-i.invariant c.in_ok-phase.ensures.answer c.in_ok-phase.ensures.next c.in_ok-phase.ensures.exchanged
