use Rattle.std.proofs.Common.{◌≡◌, ◌*◌, ◌≤◌, length, drop}
use Rattle.script.proofs.Tables.{Entered}
use Rattle.script.proofs.rules.look_up.Given as goal

abbrev pub invariant-loop-c : goal.invariant-loop-c
invariant-loop-c l =
    (l.start ≤ 8 * l.c-index) × (length l.table ≡ 8) × Entered l.table l.records (drop l.c-index l.records) l.start l.round l.first
