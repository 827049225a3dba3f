use Rattle.std.proofs.Common.{ℕ, ◌+◌, ◌*◌, ◌<◌, length, get_or, None, sym, ap, ◌∙◌, arith, rules}
use Rattle.std.proofs.lemmas.List.{get_or_read}
use Rattle.exchanges.proofs.Trail.{length_trail}
use Rattle.exchanges.proofs.Slots.{slot_in, held_at, room_alike}
use Rattle.exchanges.proofs.trees.Rounds.read.Goals as goal

pub overflow_add-result : goal.overflow_add-result
overflow_add-result g c = omega (arith, slot_in c.args.path _ c.args.q c.place.result (room_alike c.args.path.shape c.args.self.now.shape _ c.requires.alike c.args.self.now.holds) c.requires.board (omega arith) c.place.ensures)

pub offset_bounds-self-q-else-len-eq0 : goal.offset_bounds-self-q-else-len-eq0
offset_bounds-self-q-else-len-eq0 g c = let h : c.args.q * c.args.path.shape.size + c.place.result < length c.args.self.now.slots.now = (slot_in c.args.path _ c.args.q c.place.result (room_alike c.args.path.shape c.args.self.now.shape _ c.requires.alike c.args.self.now.holds) c.requires.board (omega arith) c.place.ensures).0 in search rules

pub bounds-self-q-else-len-eq0 : goal.bounds-self-q-else-len-eq0
bounds-self-q-else-len-eq0 g c = (slot_in c.args.path _ c.args.q c.place.result (room_alike c.args.path.shape c.args.self.now.shape _ c.requires.alike c.args.self.now.holds) c.requires.board (omega arith) c.place.ensures).0

pub returns-else-len-eq0 : goal.returns-else-len-eq0
returns-else-len-eq0 g c =
    let size = c.args.path.shape.size in
    let own = c.args.self.now.own.now in
    let ws = c.args.self.now.slots.now in
    let below = (slot_in c.args.path _ c.args.q c.place.result (room_alike c.args.path.shape c.args.self.now.shape _ c.requires.alike c.args.self.now.holds) c.requires.board (omega arith) c.place.ensures).0 in
    let read = get_or_read ws (c.args.q * size + c.place.result) c.index-self-q-else-len-eq0.result below c.index-self-q-else-len-eq0.is in
    sym (read c.index-self-q-else-len-eq0.result) ∙ read None ∙ ap (λ (i : ℕ). get_or ws (c.args.q * size + i) None) c.place.ensures ∙ sym (held_at c.args.path.shape.n size own ws c.args.q _ (omega (arith, length_trail c.args.path.boards c.args.path.len)))
