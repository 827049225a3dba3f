use Rattle.std.proofs.Common.{take, Ok}
use Rattle.script.specs.Fields.{joined}
use Rattle.script.specs.Passes.{Puts}
use Rattle.script.proofs.rows.put_row.Given as goal

abbrev pub invariant-loop-x : goal.invariant-loop-x
invariant-loop-x g l = Puts (joined g.R.Row.bytes (take l.x-index l.list)) l.initial.out l.at (Ok l.p) l.out
