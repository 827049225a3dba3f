use Rattle.std.proofs.Common.{◌≡◌}
use Rattle.exchanges.specs.Plain.{from_each}
use Rattle.exchanges.specs.Ran.{heard_at}
use Rattle.exchanges.proofs.plain.send_all.Given as goal

abbrev pub invariant-loop-s : goal.invariant-loop-s
invariant-loop-s g l = let m = g.B.Backplane in heard_at (m.plane l.b) l.heard ≡ from_each l.size.boards l.sent (heard_at (m.plane l.initial.b) l.initial.heard) l.s
