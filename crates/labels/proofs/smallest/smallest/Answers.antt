use Rattle.std.proofs.Common.{ℕ, ◌+◌, ◌≤◌, length, sym, ◌∙◌, subst, arith}
use borrow.Author.Tests.{eqb-false}
use Rattle.labels.proofs.Smalls.{Best, best_first, best_found, best_kept}
use Rattle.labels.proofs.smallest.smallest.Goals as goal
use Rattle.labels.proofs.smallest.smallest.Goals.{then-is_below, else-is_below}

pub loop-i-init : goal.loop-i-init
loop-i-init g c = best_first _ _

pub loop-i-preserved : goal.loop-i-preserved
loop-i-preserved g c =
    let order = g.L.Ordered.order in
    let total = g.met.L.Ordered.total in
    let xs = c.args.labels.now in
    let i = c.loop-i.i in
    elim c.if-is_below.branch [
      | then-is_below w ↦ subst (λ (k : ℕ). Best order xs (i + 1) k) (sym w.best-is) (best_found order total xs i c.loop-i.best c.index-labels-i.result c.index-labels-best.result c.loop-i.invariant c.loop-i-test.true c.index-labels-i.is c.index-labels-best.is (sym c.is_below.ensures ∙ w.if-is_below.true))
      | else-is_below w ↦ subst (λ (k : ℕ). Best order xs (i + 1) k) (sym w.best-is) (best_kept order total xs i c.loop-i.best c.index-labels-i.result c.index-labels-best.result c.loop-i.invariant c.loop-i-test.true c.index-labels-i.is c.index-labels-best.is (sym c.is_below.ensures ∙ w.if-is_below.false))
    ]

pub returns : goal.returns
returns g c =
    let inv = c.loop-i.invariant in
    let seen = inv.seen in
    let some : 1 ≤ length c.args.labels.now = omega (arith, eqb-false _ _ (sym c.is_empty.ensures ∙ c.if-is_empty.false)) in
    let end = c.loop-i.auto.i-end some in
    (omega arith, inv.before, λ j d l m. inv.after j d l (omega arith))
