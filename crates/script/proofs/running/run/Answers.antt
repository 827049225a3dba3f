use Rattle.std.proofs.Common.{length, refl, arith}
use Rattle.std.proofs.lemmas.List.{length-take-le}
use Rattle.labels.specs.Slip.{same_slip}
use Rattle.exchanges.specs.Trees.{tree_exchange}
use Rattle.panel.specs.Panel.{sizes}
use Rattle.script.specs.Memory.{lists}
use Rattle.script.specs.ScriptPlane.{script_plane}
use Rattle.script.specs.Runs.{script_trees, phases_due}
use Rattle.script.proofs.Courses.{not_opened, not_run, all_run, boards_there, same_trees}
use Rattle.script.proofs.running.run.Goals as goal

pub returns-in_err-open_panel : goal.returns-in_err-open_panel
returns-in_err-open_panel g c =
    not_opened g.L.Ordered.order c.args.slots.now c.args.script.head c.args.script.proposals.now (sizes (length c.args.heard.now) (length c.args.picks.now) (length c.args.work.now)) c.args.told.now (omega arith) _ c.new-panel.ensures.made (script_trees g.L.Ordered.order c.args.script.head c.args.script.count (lists c.args.script.proposals.now c.args.script.records.now c.args.script.slips.now)) (phases_due c.args.script.head) c.from_residual.result _ c.from_residual.ensures.1 c.in_err-open_panel.ensures

pub returns-in_err-run_phases : goal.returns-in_err-run_phases
returns-in_err-run_phases g c =
    let o = g.L.Ordered.order in
    let m = lists c.args.script.proposals.now c.args.script.records.now c.args.script.slips.now in
    let same = same_trees o c.args.script.head c.args.script.count m c.new-trees.result _ _ _ c.new-trees.ensures.made.0 c.new-plane.ensures.means c.bad_boards.ensures c.new-trees.ensures.made.1 c.faults_borne.ensures in
    not_run o c.args.slots.now c.args.script.head c.args.script.proposals.now (sizes (length c.args.heard.now) (length c.args.picks.now) (length c.args.work.now)) c.args.told.now (omega arith) _ c.new-panel.ensures.made _ (script_trees o c.args.script.head c.args.script.count m) (tree_exchange (same_slip g.L.Ordered.order) script_plane c.new-trees.result) same (phases_due c.args.script.head) c.phases_due-phases.result c.phases_due-phases.ensures c.in_ok-open_panel.ensures c.from_residual-in_err-run_phases.result _ c.from_residual-in_err-run_phases.ensures.1 c.in_err-run_phases.ensures

pub tell_verdicts-requires : goal.tell_verdicts-requires
tell_verdicts-requires g c =
    let there = boards_there g.L.Ordered.order c.args.slots.now c.args.script.head c.args.script.proposals.now (sizes (length c.args.heard.now) (length c.args.picks.now) (length c.args.work.now)) c.args.told.now (omega arith) _ c.new-panel.ensures.made _ (tree_exchange (same_slip g.L.Ordered.order) script_plane c.new-trees.result) (tree_exchange (same_slip g.L.Ordered.order) script_plane c.new-trees.result) refl c.phases_due-phases.result c.phases_due-phases.result refl c.in_ok-open_panel.ensures _ c.in_ok-run_phases.ensures in
    omega (arith, there, length-take-le c.from-n.result c.args.told.now (omega arith))

pub returns : goal.returns
returns g c =
    let o = g.L.Ordered.order in
    let m = lists c.args.script.proposals.now c.args.script.records.now c.args.script.slips.now in
    let same = same_trees o c.args.script.head c.args.script.count m c.new-trees.result _ _ _ c.new-trees.ensures.made.0 c.new-plane.ensures.means c.bad_boards.ensures c.new-trees.ensures.made.1 c.faults_borne.ensures in
    rw c.from-n.ensures (all_run o c.args.slots.now c.args.script.head c.args.script.proposals.now (sizes (length c.args.heard.now) (length c.args.picks.now) (length c.args.work.now)) c.args.told.now (omega arith) _ c.new-panel.ensures.made _ (script_trees o c.args.script.head c.args.script.count m) (tree_exchange (same_slip g.L.Ordered.order) script_plane c.new-trees.result) same (phases_due c.args.script.head) c.phases_due-phases.result c.phases_due-phases.ensures c.in_ok-open_panel.ensures _ _ _ c.in_ok-run_phases.ensures (rw c.from-n.ensures at c.tell_verdicts.ensures) refl)
