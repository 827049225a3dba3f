use Rattle.std.proofs.Common.{◌≡◌, ℕ, suc, ◌-◌, ◌<◌, subst, arith}
use Rattle.std.proofs.lemmas.Nat.{div_below}
use Rattle.exchanges.specs.Trees.{paths_of}
use Rattle.exchanges.proofs.path.Path.+at.Goals as goal

pub at-requires : goal.at-requires
at-requires t c =
    let n = c.args.shape.n in
    let k = c.args.len - 1 in
    let more : c.args.len ≡ suc k = omega arith in
    let below : c.args.index < paths_of n (suc k) = subst (λ (m : ℕ). c.args.index < paths_of n m) more c.requires.within in
    (omega arith, (omega arith, div_below c.args.index (n - k) (paths_of n k) (omega arith) below))
