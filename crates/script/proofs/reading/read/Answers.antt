use Rattle.std.proofs.Common.{Err, refl, ap, ◌∙◌, arith}
use Rattle.script.specs.Memory.{lists}
use Rattle.script.proofs.Follow.{passed}
use Rattle.script.proofs.Surveys.{found, reads_fault, reads_short, no_label_fault, enough, no_entry_fault, reads_all}
use Rattle.script.proofs.Trips.{writes_back}
use Rattle.script.proofs.reading.read.Goals as goal

pub returns-in_err-found : goal.returns-in_err-found
returns-in_err-found g c =
    let e = reads_fault g.L.Label.coding g.met.L.Label.own c.args.input.now _ (lists c.args.proposals.now c.args.records.now c.args.slips.now) c.in_err-found.ensures in
    record { value = passed c.from_residual.result _ c.from_residual.ensures.1 ∙ e.0; after = e.1; trip = writes_back g.L.Label.coding g.met.L.Label.own }

pub returns-then-proposals-n : goal.returns-then-proposals-n
returns-then-proposals-n g c =
    let f = found g.L.Label.coding g.met.L.Label.own c.args.input.now c.in_ok-found.found c.in_ok-found.ensures in
    let e = reads_short f (lists c.args.proposals.now c.args.records.now c.args.slips.now) (λ i j k. omega (arith, c.then-proposals-n.either)) in
    record { value = ap Err c.fault_at.ensures ∙ e.0; after = e.1; trip = writes_back g.L.Label.coding g.met.L.Label.own }

pub returns-in_err-fill_row : goal.returns-in_err-fill_row
returns-in_err-fill_row g c =
    let f = found g.L.Label.coding g.met.L.Label.own c.args.input.now c.in_ok-found.found c.in_ok-found.ensures in
    absurd (no_label_fault f (lists c.args.proposals.now c.args.records.now c.args.slips.now) (omega arith) _ _ (rw c.from-n.ensures at c.in_err-fill_row.ensures))

pub fill_entries-requires : goal.fill_entries-requires
fill_entries-requires g c =
    let f = found g.L.Label.coding g.met.L.Label.own c.args.input.now c.in_ok-found.found c.in_ok-found.ensures in
    enough f _ _ (omega arith) (omega arith)

pub returns-in_err-fill_entries : goal.returns-in_err-fill_entries
returns-in_err-fill_entries g c =
    let f = found g.L.Label.coding g.met.L.Label.own c.args.input.now c.in_ok-found.found c.in_ok-found.ensures in
    absurd (no_entry_fault f _ _ _ _ _ c.in_err-fill_entries.ensures)

pub returns : goal.returns
returns g c =
    let f = found g.L.Label.coding g.met.L.Label.own c.args.input.now c.in_ok-found.found c.in_ok-found.ensures in
    let e = reads_all f _ (lists c.args.proposals.now c.args.records.now c.args.slips.now) _ _ _ _ (omega arith) (omega arith) (omega arith) (rw c.from-n.ensures at c.in_ok-fill_row.ensures) refl c.in_ok-fill_entries.ensures in
    record { value = e.0; after = rw c.from-n.ensures e.1; trip = writes_back g.L.Label.coding g.met.L.Label.own }
