-- What the steps of a phase need, and what they leave in the blocks.
use Rattle.std.specs.Prelude.{◌≡◌, ℕ, ◌*◌, ◌<◌, ◌≤◌, true, List, take, drop}
use Rattle.labels.specs.declared.slip.Slip.{Slip}
use Rattle.exchanges.specs.Boards.{fits}
use Rattle.exchanges.specs.Exchange.{Exchange, firm}
use Rattle.panel.specs.Slots.{Slot}
use Rattle.panel.specs.Panel.{column, firsts}

-- an exchange of n boards whose counts fit, with enough workspace
pub record Ready {I : Type 0} (x : Exchange I) (n work : ℕ) : Type 0 where
  pub fit : fits x.boards x.faults ≡ true
  pub same : x.boards ≡ n
  pub space : x.workspace ≤ work

-- block g holds what the firm exchange number g filled, for each below f
abbrev pub Filled : {L : Type 0} → Exchange (Slip L) → ℕ → List (Slot L) → ℕ → List (Slot L) → Type 0
Filled x n slots f blocks = (g : ℕ) → g < f → take (n * n) (drop (g * (n * n)) blocks) ≡ x.fills (firsts n slots g) (firm (column n slots g))

-- what writes the slot of a board, by the board and by what it holds, writes c for each of n boards
abbrev pub Writes : {L : Type 0} → ℕ → (ℕ → Slot L → Slot L → Type 0) → (ℕ → Slot L → Slot L) → Type 0
Writes {L} n writes c = (p : ℕ) (s r : Slot L) → p < n → writes p s r → r ≡ c p s

-- what makes a slot of two makes c of them
abbrev pub Combines : {L : Type 0} → (Slot L → Slot L → Slot L → Type 0) → (Slot L → Slot L → Slot L) → Type 0
Combines {L} makes c = (s t r : Slot L) → makes s t r → r ≡ c s t
