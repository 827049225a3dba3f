use Rattle.std.proofs.Common.{◌^◌, ◌<◌, ◌≤◌, sym, ap, ◌∙◌, mod-eq_of_lt, arith, pow_mono}
use lib.Count.{ones}
use Rattle.script.proofs.rules.rank.Goals as goal

pub returns-then-board-ge8 : goal.returns-then-board-ge8
returns-then-board-ge8 c =
    let p : 2 ^ 8 ≤ 2 ^ c.args.board = pow_mono {i = 8} {j = c.args.board} (omega arith) in
    let below : c.args.map < 2 ^ c.args.board = omega arith in
    c.map_count.ensures.value ∙ ap ones (sym (mod-eq_of_lt below))
