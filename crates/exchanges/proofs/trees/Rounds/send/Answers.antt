use Rattle.std.proofs.Common.{◌≡◌, ℕ, ◌+◌, ◌*◌, ◌<◌, [], length, set, fold, sym, ap, ◌∙◌, subst, arith, rules}
use Rattle.exchanges.specs.declared.path.Shape.{Shape}
use Rattle.exchanges.specs.Plane.{carry, after}
use Rattle.exchanges.specs.Trees.{place}
use Rattle.exchanges.specs.Slots.{trail, held, Worked, Work, carried, hops_from}
use Rattle.exchanges.proofs.Slots.{slot_in, room_alike, work_step, sent_more}
use Rattle.exchanges.proofs.trees.Rounds.send.Goals as goal

pub overflow_add-p : goal.overflow_add-p
overflow_add-p g c = omega (arith, slot_in c.args.path _ c.loop-p.p c.place-place.result (room_alike c.args.path.shape c.loop-p.self.shape _ (c.requires.alike ∙ sym c.loop-p.invariant.0.0) c.loop-p.self.holds) c.loop-p-test.true c.requires.some c.place-place.ensures)

pub offset_bounds-slots-p : goal.offset_bounds-slots-p
offset_bounds-slots-p g c = let h : c.loop-p.p * c.args.path.shape.size + c.place-place.result < length c.loop-p.self.slots.now = (slot_in c.args.path _ c.loop-p.p c.place-place.result (room_alike c.args.path.shape c.loop-p.self.shape _ (c.requires.alike ∙ sym c.loop-p.invariant.0.0) c.loop-p.self.holds) c.loop-p-test.true c.requires.some c.place-place.ensures).0 in search rules

pub bounds-slots-p : goal.bounds-slots-p
bounds-slots-p g c = (slot_in c.args.path _ c.loop-p.p c.place-place.result (room_alike c.args.path.shape c.loop-p.self.shape _ (c.requires.alike ∙ sym c.loop-p.invariant.0.0) c.loop-p.self.holds) c.loop-p-test.true c.requires.some c.place-place.ensures).0

pub loop-p-preserved : goal.loop-p-preserved
loop-p-preserved g c =
    let plane = g.B.Backplane.plane in
    let shape = c.args.path.shape in
    let q = c.split-q.result.1 in
    let rest = c.split-q.result.0 in
    let α = trail rest.boards rest.len in
    let own = c.args.self.now.own.now in
    let i = c.loop-p.invariant in
    let p = c.loop-p.p in
    let ws = c.loop-p.self.slots.now in
    let start : Work g.row.I.Denot = record { plane = plane c.args.self.now.plane.now; slots = c.args.self.now.slots.now } in
    let at = ap (λ (x : ℕ). p * shape.size + x) (c.place-place.ensures ∙ ap (place shape.n) c.split-q.ensures.parts) in
    let b = plane c.loop-p.self.plane.now in
    let b' = plane c.carry-answer.new.self in
    let item = c.read-item.result in
    let answers : c.carry-answer.result ≡ b.answer [] q p item = cc c.carry-answer.ensures.answers in
    let leaves : b' ≡ after b (carry q p item) = cc c.carry-answer.ensures.leaves in
    let held_is : item ≡ held shape.n shape.size own ws q α = c.read-item.ensures ∙ (ap (λ (s : Shape). held s.n s.size c.loop-p.self.own.now ws q α) c.split-q.ensures.shape ∙ ap (λ o. held shape.n shape.size o.now ws q α) i.0.1) in
    let step = work_step shape.n shape.size own (fold (carried shape.n shape.size own) start (hops_from p α q)) (record { path = α; from = q; to = p }) b b' ws item c.carry-answer.result (p * shape.size + c.place-place.result) i.1 held_is answers leaves at in
    (i.0, subst (λ (w : Work g.row.I.Denot). Worked b' (set ws (p * shape.size + c.place-place.result) c.carry-answer.result) w) (sym (sent_more shape.n shape.size own start α q p)) step)
