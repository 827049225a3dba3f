use Rattle.std.proofs.Common.{◌≡◌, ℕ}
use Rattle.panel.specs.Slots.{Slot}
use Rattle.panel.specs.Panel.{at, put}
use Rattle.panel.specs.Steps.{Writes}
use Rattle.panel.proofs.steps.put_each.Given as goal

abbrev pub invariant-loop-p : goal.invariant-loop-p
invariant-loop-p g l = (c : ℕ → Slot g.row.L.Denot → Slot g.row.L.Denot) → Writes l.fn.size.boards (goal.F-post g l.new) c → l.slots ≡ put l.place (λ p. c p (at l.initial.slots p l.place)) l.initial.slots l.p
