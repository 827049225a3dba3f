use Rattle.std.proofs.Common.{◌≡◌, ℕ, ◌+◌, ◌-◌, ◌*◌, take, drop, ap, ◌∙◌, arith}
use Rattle.exchanges.proofs.Heard.{row_below, row_in, heard_more}
use Rattle.exchanges.proofs.Slots.{all_small}
use Rattle.exchanges.proofs.trees.Trees.hear.Goals as goal

pub overflow_add-row : goal.overflow_add-row
overflow_add-row g c =
    let s = c.args.self.now.shape in
    omega (arith, row_in s (s.n * s.size) c.loop-p.p (omega arith) c.loop-p-test.true, all_small s.n s.t s.few s.fewer, ap (λ (k : ℕ). s.n * k) s.sized)

pub slice_bounds-row-end : goal.slice_bounds-row-end
slice_bounds-row-end g c = omega (arith, row_in c.args.self.now.shape _ c.loop-p.p c.args.self.now.holds c.loop-p-test.true)

pub loop-p-preserved : goal.loop-p-preserved
loop-p-preserved g c =
    let n = c.args.self.now.shape.n in
    let size = c.args.self.now.shape.size in
    let ws = c.args.self.now.slots.now in
    let p = c.loop-p.p in
    let width : p * size + n - p * size ≡ n = omega arith in
    heard_more n size ws p _ c.loop-p.heard c.copy_from_slice.new.self c.args.heard.now (row_in c.args.self.now.shape _ p c.args.self.now.holds c.loop-p-test.true) (row_below n n p n _ c.requires c.loop-p-test.true (omega arith)) c.loop-p.invariant (c.copy_from_slice.ensures.after ∙ ap (λ (k : ℕ). take k (drop (p * size) ws)) width) (omega arith)
