use Rattle.script.proofs.Putting.{Placing}
use Rattle.script.proofs.forming.put_records.Given as goal

abbrev pub invariant-loop-note : goal.invariant-loop-note
invariant-loop-note g l = Placing g.L.Label.coding l.records l.slips l.initial.out l.at l.note-index l.p l.rest l.out
