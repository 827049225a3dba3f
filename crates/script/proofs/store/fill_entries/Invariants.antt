use Rattle.std.proofs.Common.{◌-◌, length}
use Rattle.script.specs.Header.{bad_map}
use Rattle.script.proofs.Storing.{Storing}
use Rattle.script.proofs.store.fill_entries.Given as goal

abbrev pub invariant-loop-p : goal.invariant-loop-p
invariant-loop-p g l = Storing g.L.Label.coding l.head.boards (bad_map l.head) l.b l.start l.initial.records l.initial.slips l.p l.count l.done l.last.round l.last.sender l.records l.slips

abbrev pub decreases-loop-p : goal.decreases-loop-p
decreases-loop-p g l = length l.b - l.p
