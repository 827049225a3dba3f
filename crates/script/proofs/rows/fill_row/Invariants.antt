use Rattle.std.proofs.Common.{◌≡◌, ◌-◌, length, take}
use Rattle.script.specs.Fields.{many}
use Rattle.script.proofs.Loops.{onto}
use Rattle.script.proofs.rows.fill_row.Given as goal

abbrev pub invariant-loop-slot : goal.invariant-loop-slot
invariant-loop-slot g l =
    let f = g.R.Row.reader in
    let n = length l.initial.list in
    many n f l.b l.start ≡ onto (take l.slot-index l.list) (many (n - l.slot-index) f l.b l.p)
