use Rattle.std.proofs.Common.{sym}
use Rattle.std.proofs.lemmas.List.{set_past}
use Rattle.panel.proofs.memory.put_slot.Goals as goal

pub returns-else-place-slots : goal.returns-else-place-slots
returns-else-place-slots g c = sym (set_past _ _ _ c.if-place-slots.false)
