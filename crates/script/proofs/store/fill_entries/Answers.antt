use borrow.Author.Rules.{scaled_fits≤}
use Rattle.std.proofs.Common.{◌≤◌, length, refl, arith, rules}
use Rattle.script.specs.Header.{bad_map}
use Rattle.script.proofs.Storing.{storing_none, no_fault, has_room, no_slip_fault, goes_on, storing_more, storing_all}
use Rattle.script.proofs.store.fill_entries.Goals as goal

pub loop-p-init : goal.loop-p-init
loop-p-init g c = storing_none g.L.Label.coding c.args.head.boards (bad_map c.args.head) c.args.b.now c.args.start c.args.records.now c.args.slips.now

pub returns-in_err-note : goal.returns-in_err-note
returns-in_err-note g c = absurd (no_fault g.met.L.Label.own c.loop-p.invariant c.loop-p-test.true c.requires c.in_err-note.ensures)

pub offset_bounds-records-count : goal.offset_bounds-records-count
offset_bounds-records-count g c = let h = has_room g.met.L.Label.own c.loop-p.invariant c.loop-p-test.true c.requires c.in_ok-note.ensures c.map_count-more.ensures.value in omega (arith, h.0)

pub bounds-records-count : goal.bounds-records-count
bounds-records-count g c = let h = has_room g.met.L.Label.own c.loop-p.invariant c.loop-p-test.true c.requires c.in_ok-note.ensures c.map_count-more.ensures.value in omega (arith, h.0)

pub offset_bounds-slips-done : goal.offset_bounds-slips-done
offset_bounds-slips-done g c =
    let h = has_room g.met.L.Label.own c.loop-p.invariant c.loop-p-test.true c.requires c.in_ok-note.ensures c.map_count-more.ensures.value in
    let k : c.loop-p.done ≤ length c.args.slips.now = omega (arith, h.1) in
    search (rules, scaled_fits≤)

pub slice_bounds-fill_row-end : goal.slice_bounds-fill_row-end
slice_bounds-fill_row-end g c = let h = has_room g.met.L.Label.own c.loop-p.invariant c.loop-p-test.true c.requires c.in_ok-note.ensures c.map_count-more.ensures.value in omega (arith, h.1)

pub returns-in_err-p : goal.returns-in_err-p
returns-in_err-p g c = absurd (no_slip_fault g.met.L.Label.own c.loop-p.invariant c.loop-p-test.true c.requires c.in_ok-note.ensures c.map_count-more.ensures.value _ _ c.in_err-p.ensures)

pub loop-p-smaller : goal.loop-p-smaller
loop-p-smaller g c = let h = goes_on g.met.L.Label.own c.loop-p.invariant c.loop-p-test.true c.requires c.in_ok-note.ensures c.map_count-more.ensures.value _ _ c.in_ok-p.ensures in omega (arith, h.0, h.1, c.loop-p-test.true)

pub loop-p-preserved : goal.loop-p-preserved
loop-p-preserved g c =
    storing_more g.met.L.Label.own c.loop-p.invariant c.loop-p-test.true c.requires c.in_ok-note.ensures c.map_count-more.ensures.value _ _ c.in_ok-p.ensures _ _ c.turn-last.ensures refl

pub returns : goal.returns
returns g c = storing_all c.loop-p.invariant c.loop-p-test.false
