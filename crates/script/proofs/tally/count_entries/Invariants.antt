use Rattle.std.proofs.Common.{◌-◌, length}
use Rattle.script.specs.Header.{bad_map}
use Rattle.script.proofs.Counting.{Counting}
use Rattle.script.proofs.tally.count_entries.Given as goal

abbrev pub invariant-loop-p : goal.invariant-loop-p
invariant-loop-p g l = Counting g.L.Label.coding l.head.boards (bad_map l.head) l.b l.start l.p l.count l.slips l.last.round l.last.sender

abbrev pub decreases-loop-p : goal.decreases-loop-p
decreases-loop-p g l = length l.b - l.p
