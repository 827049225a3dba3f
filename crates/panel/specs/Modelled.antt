-- The state that a panel holds.
use Rattle.std.specs.Prelude.{◌≡◌, ℕ, ◌+◌, Some, None, Ok, Err, Option, Result}
use Rattle.labels.specs.declared.refusal.Refusal.{Refusal}
use Rattle.exchanges.specs.declared.fitting.Size.{Size}
use Rattle.panel.specs.declared.held.Panel.{Panel}
use Rattle.panel.specs.declared.phase.Phase.{Phase}
use Rattle.panel.specs.Panel.{State}

abbrev pub boards_of : Option Size → ℕ
boards_of None = 0
boards_of (Some z) = z.boards

abbrev pub faults_of : Option Size → ℕ
faults_of None = 0
faults_of (Some z) = z.faults

abbrev pub state : {L : Type 0} → Panel L → State L
state p = record { boards = boards_of p.size; faults = faults_of p.size; phases = p.phases; slots = p.slots.now }

-- where a phase is answered, it is the next of the panel, of its size
abbrev pub NextOf : Option Size → ℕ → Result Phase Refusal → Type 0
NextOf z k (Ok a) = (z ≡ Some a.size) × (a.number ≡ k + 1)
NextOf z k (Err e) = Unit {0}
