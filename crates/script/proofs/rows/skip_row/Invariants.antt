use Rattle.std.proofs.Common.{◌≡◌, ◌-◌}
use Rattle.script.specs.Fields.{many}
use Rattle.script.specs.Passes.{placed}
use Rattle.script.proofs.rows.skip_row.Given as goal

abbrev pub invariant-loop-i : goal.invariant-loop-i
invariant-loop-i g l =
    let f = g.R.Row.reader in
    placed (many l.n f l.b l.start) ≡ placed (many (l.n - l._i) f l.b l.p)
