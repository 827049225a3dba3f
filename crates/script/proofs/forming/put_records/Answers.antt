use Rattle.std.proofs.Common.{get_or, arith}
use Rattle.std.proofs.lemmas.List.{get_or_default}
use Rattle.script.specs.declared.model.Record.{Record}
use Rattle.script.proofs.Follow.{passed}
use Rattle.script.proofs.Putting.{slips_stop, ends_short, placing_more}
use Rattle.script.proofs.forming.put_records.Goals as goal

abbrev none : Record
none = record { round = 0; sender = 0; lost = 0; forged = 0 }

pub returns-in_err-p : goal.returns-in_err-p
returns-in_err-p g c =
    let x = get_or c.args.records.now c.loop-note.note-index none in
    let is = get_or_default c.args.records.now c.loop-note.note-index x none c.loop-note-test.true in
    slips_stop c.loop-note.invariant x c.loop-note-test.true is c.map_count-due.ensures.value c.min.ensures c.split_at.ensures.front c.split_at.ensures.back _ c.in_ok-q.q c.in_ok-q.ensures _ _ _ (passed c.from_residual-in_err-p.result _ c.from_residual-in_err-p.ensures.1) c.in_err-p.ensures

pub returns-then-own-due : goal.returns-then-own-due
returns-then-own-due g c =
    let x = get_or c.args.records.now c.loop-note.note-index none in
    let is = get_or_default c.args.records.now c.loop-note.note-index x none c.loop-note-test.true in
    ends_short c.loop-note.invariant x c.loop-note-test.true is c.map_count-due.ensures.value c.min.ensures c.split_at.ensures.front c.split_at.ensures.back _ c.in_ok-q.q c.in_ok-q.ensures _ c.in_ok-p.p c.in_ok-p.ensures (omega arith)

pub loop-note-preserved : goal.loop-note-preserved
loop-note-preserved g c =
    let x = get_or c.args.records.now c.loop-note.note-index none in
    let is = get_or_default c.args.records.now c.loop-note.note-index x none c.loop-note-test.true in
    placing_more c.loop-note.invariant x c.loop-note-test.true is c.map_count-due.ensures.value c.min.ensures c.split_at.ensures.front c.split_at.ensures.back _ c.in_ok-q.q c.in_ok-q.ensures _ c.in_ok-p.p c.in_ok-p.ensures (omega arith)
