use Rattle.std.proofs.Common.{◌+◌, ◌*◌, ◌<◌, length, refl, arith, rules}
use Rattle.exchanges.proofs.Slots.{slot_in, room_alike}
use Rattle.exchanges.proofs.Children.{children_in, reduced_is}
use Rattle.exchanges.proofs.trees.Trees.reduce_at.Goals as goal

pub overflow_add-first : goal.overflow_add-first
overflow_add-first g c = omega (arith, (children_in c.args.path _ c.args.p c.len.result c.children.result (room_alike c.args.path.shape c.args.self.now.shape _ c.requires.alike c.args.self.now.holds) c.requires.board c.requires.short.0 c.requires.short.1 c.len.ensures c.children.ensures).1)

pub settled_in-item-requires : goal.settled_in-item-requires
settled_in-item-requires g c = (children_in c.args.path _ c.args.p c.len.result c.children.result (room_alike c.args.path.shape c.args.self.now.shape _ c.requires.alike c.args.self.now.holds) c.requires.board c.requires.short.0 c.requires.short.1 c.len.ensures c.children.ensures).0

pub overflow_add-p : goal.overflow_add-p
overflow_add-p g c = omega (arith, slot_in c.args.path _ c.args.p c.place.result (room_alike c.args.path.shape c.args.self.now.shape _ c.requires.alike c.args.self.now.holds) c.requires.board c.requires.short.0 c.place.ensures)

pub offset_bounds-slots-p : goal.offset_bounds-slots-p
offset_bounds-slots-p g c = let h : c.args.p * c.args.path.shape.size + c.place.result < length c.args.self.now.slots.now = (slot_in c.args.path _ c.args.p c.place.result (room_alike c.args.path.shape c.args.self.now.shape _ c.requires.alike c.args.self.now.holds) c.requires.board c.requires.short.0 c.place.ensures).0 in search rules

pub bounds-slots-p : goal.bounds-slots-p
bounds-slots-p g c = (slot_in c.args.path _ c.args.p c.place.result (room_alike c.args.path.shape c.args.self.now.shape _ c.requires.alike c.args.self.now.holds) c.requires.board c.requires.short.0 c.place.ensures).0

pub returns-clause-slots : goal.returns-clause-slots
returns-clause-slots g c = reduced_is c.args.path _ c.args.p c.len.result c.children.result (room_alike c.args.path.shape c.args.self.now.shape _ c.requires.alike c.args.self.now.holds) c.requires.board c.requires.short.0 c.requires.short.1 c.len.ensures c.children.ensures g.I.Item.same c.args.self.now.slots.now c.place.result c.settled_in-item.result refl c.place.ensures c.settled_in-item.ensures
