use Rattle.std.proofs.Common.{◌^◌, ◌<◌, ◌≤◌, sym, ◌∙◌, arith, pow_mono, le-leb, lt-ltb}
use Rattle.script.proofs.records.is_within.Goals as goal

pub returns-then-n-ge8 : goal.returns-then-n-ge8
returns-then-n-ge8 c =
    let p : 2 ^ 8 ≤ 2 ^ c.args.n = pow_mono {i = 8} {j = c.args.n} (omega arith) in
    let below : c.args.map < 2 ^ c.args.n = omega arith in
    le-leb 8 c.args.n c.if-n-ge8.true ∙ sym (lt-ltb c.args.map (2 ^ c.args.n) below)
