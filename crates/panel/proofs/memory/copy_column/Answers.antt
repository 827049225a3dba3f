use Rattle.std.proofs.Common.{◌≡◌, ◌<◌, ◌≤◌, ◌++◌, length, get_or, take, drop, set, None, ap, ◌∙◌, arith}
use Rattle.std.proofs.lemmas.List.{take-append-le, take_all, length-take-le}
use Rattle.std.proofs.lemmas.List.Edits.{fill_by_more}
use Rattle.std.proofs.lemmas.List.FromFn.{fill_by_all}
use Rattle.panel.specs.Panel.{at}
use Rattle.panel.proofs.memory.copy_column.Goals as goal

pub loop-q-preserved : goal.loop-q-preserved
loop-q-preserved g c =
    let within : c.loop-q.q < length c.loop-q.slot-items = omega arith in
    λ i h. ap (λ x. get_or (set c.loop-q.slot-items c.loop-q.q x) i None) c.slot_at.ensures ∙ fill_by_more (λ q. at c.args.slots.now q c.args.place) c.loop-q.slot-items c.loop-q.q None within c.loop-q.invariant i h

pub returns : goal.returns
returns g c =
    let items = c.loop-q.slot-items in
    let n = c.args.size.boards in
    let long : length items ≡ n = c.loop-q.auto.slot-items ∙ (ap (λ k. length (take k c.args.sent.now)) c.n.ensures ∙ length-take-le n c.args.sent.now c.requires.room) in
    let wide : n ≤ length items = omega arith in
    let all : length items ≤ n = omega arith in
    let front = ap (λ k. take n (items ++ drop k c.args.sent.now)) c.n.ensures in
    front ∙ rw (take-append-le n items, take_all n items)
    (fill_by_all (λ q. at c.args.slots.now q c.args.place) items n None long (λ i h. c.loop-q.invariant i (omega arith)))
