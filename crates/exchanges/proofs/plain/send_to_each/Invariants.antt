use Rattle.std.proofs.Common.{◌≡◌}
use Rattle.exchanges.specs.Plain.{to_each}
use Rattle.exchanges.specs.Ran.{heard_at}
use Rattle.exchanges.proofs.plain.send_to_each.Given as goal

abbrev pub invariant-loop-d : goal.invariant-loop-d
invariant-loop-d g l = let m = g.B.Backplane in heard_at (m.plane l.b) l.heard ≡ to_each l.size.boards l.item l.s (heard_at (m.plane l.initial.b) l.initial.heard) l.d
