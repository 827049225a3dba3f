use Rattle.std.proofs.Common.{length, Ok, ap, ◌∙◌}
use Rattle.script.specs.Memory.{lists, formed}
use Rattle.script.proofs.Follow.{passed}
use Rattle.script.proofs.Outputs.{put_front, writes_fault, writes_last}
use Rattle.script.proofs.Trips.{reads_back}
use Rattle.script.proofs.writing.write.Goals as goal

pub returns-in_err-size-clause-trip : goal.returns-in_err-size-clause-trip
returns-in_err-size-clause-trip g c = reads_back g.L.Label.coding g.met.L.Label.own

pub returns-in_err-survey-clause-trip : goal.returns-in_err-survey-clause-trip
returns-in_err-survey-clause-trip g c = reads_back g.L.Label.coding g.met.L.Label.own

pub returns-in_err-survey-clause-value : goal.returns-in_err-survey-clause-value
returns-in_err-survey-clause-value g c =
    let s = c.args.script in
    let m = lists s.proposals.now s.records.now s.slips.now in
    let f = put_front (formed g.L.Label.coding s.head s.count m) c.form.new.out c.in_ok-size.size c.in_ok-size.ensures in
    passed c.from_residual-in_err-survey.result _ c.from_residual-in_err-survey.ensures.1 ∙ writes_fault g.L.Label.coding g.met.L.Label.own s.head s.count m (length c.args.output.now) _ f.1 _ c.in_err-survey.ensures

pub returns-in_err-check_last-clause-trip : goal.returns-in_err-check_last-clause-trip
returns-in_err-check_last-clause-trip g c = reads_back g.L.Label.coding g.met.L.Label.own

pub returns-in_err-check_last-clause-value : goal.returns-in_err-check_last-clause-value
returns-in_err-check_last-clause-value g c =
    let s = c.args.script in
    let m = lists s.proposals.now s.records.now s.slips.now in
    let f = put_front (formed g.L.Label.coding s.head s.count m) c.form.new.out c.in_ok-size.size c.in_ok-size.ensures in
    passed c.from_residual-in_err-check_last.result _ c.from_residual-in_err-check_last.ensures.1 ∙ writes_last g.L.Label.coding g.met.L.Label.own s.head s.count m (length c.args.output.now) _ f.1 _ c.in_ok-survey.ensures _ c.in_ok-size.size f.0 c.in_err-check_last.ensures

pub returns-clause-trip : goal.returns-clause-trip
returns-clause-trip g c = reads_back g.L.Label.coding g.met.L.Label.own

pub returns-clause-value : goal.returns-clause-value
returns-clause-value g c =
    let s = c.args.script in
    let m = lists s.proposals.now s.records.now s.slips.now in
    let f = put_front (formed g.L.Label.coding s.head s.count m) c.form.new.out c.in_ok-size.size c.in_ok-size.ensures in
    ap Ok f.0 ∙ writes_last g.L.Label.coding g.met.L.Label.own s.head s.count m (length c.args.output.now) _ f.1 _ c.in_ok-survey.ensures _ c.in_ok-size.size f.0 c.in_ok-check_last.ensures
