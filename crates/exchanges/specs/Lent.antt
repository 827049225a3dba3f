-- What goes on with the trees of all boards, and with the rounds that fill them.
use Rattle.std.specs.Prelude.{◌≡◌}
use Rattle.exchanges.specs.declared.trees.Trees.{Trees}
use Rattle.exchanges.specs.declared.trees.Rounds.{Rounds}

-- they have the same shape, and lie in the same memory
abbrev pub GoesOn : {I : Type 0} → Trees I → Trees I → Type 0
GoesOn a b = (b.shape ≡ a.shape) × (b.slots.ghost_name ≡ a.slots.ghost_name)

-- the same is sent, over the same backplane, into the same trees
abbrev pub RoundsGoOn : {I B : Type 0} → Rounds I B → Rounds I B → Type 0
RoundsGoOn a b = (b.shape ≡ a.shape) × (b.own ≡ a.own) × (b.plane.ghost_name ≡ a.plane.ghost_name) × (b.slots.ghost_name ≡ a.slots.ghost_name)
