use Rattle.std.proofs.Common.{◌≡◌, ℕ, ◌+◌, ◌*◌, ◌<◌, ap, ◌∙◌, arith}
use Rattle.panel.specs.Panel.{at, put}
use Rattle.panel.proofs.Phases.{put_above}
use Rattle.panel.proofs.Loops.{put_more}
use Rattle.panel.proofs.steps.put_each.Goals as goal

pub loop-p-preserved : goal.loop-p-preserved
loop-p-preserved g c = λ f h.
    let k = c.args.place in
    let before = c.args.slots.now in
    let new = λ (p : ℕ). f p (at before p k) in
    let p = c.loop-p.p in
    let was = c.loop-p.invariant f h in
    let below : p < c.args.size.boards = omega arith in
    let kept : at c.loop-p.slots p k ≡ at before p k = ap (λ u. at u p k) was ∙ put_above k (omega arith) new before p (10 * p + k) (omega arith) in
    put_more k new before p c.loop-p.slots _ c.new.result was (h p c.slot_at.result c.new.result below c.new.ensures ∙ ap (f p) (c.slot_at.ensures ∙ kept)) c.put_slot.ensures

pub returns : goal.returns
returns g c = λ f h.
    let e : c.loop-p.p ≡ c.args.size.boards = omega arith in
    c.loop-p.invariant f h ∙ ap (put c.args.place (λ p. f p (at c.args.slots.now p c.args.place)) c.args.slots.now) e
