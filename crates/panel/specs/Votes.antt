-- Tests of slips, and the rows that they are put to.
use Rattle.std.specs.Prelude.{◌≡◌, ℕ, ◌+◌, ◌*◌, Bool, false, List, Some, None, take, drop, slice_index_or}
use Rattle.labels.specs.declared.slip.Slip.{Slip}
use Rattle.panel.specs.declared.heard.Heard.{Heard}
use Rattle.panel.specs.Slots.{Slot}
use Rattle.panel.specs.Phase.{Row}

-- what answers a question about a slip answers P
abbrev pub Tells : {L : Type 0} → (Slip L → Bool → Type 0) → (Slip L → Bool) → Type 0
Tells {L} answers P = (s : Slip L) (b : Bool) → answers s b → b ≡ P s

-- and the same about a slot, where silence does not count
abbrev pub Counts : {L : Type 0} → (Slip L → Bool → Type 0) → (Slot L → Bool) → Type 0
Counts answers T = (T None ≡ false) × Tells answers (λ s. T (Some s))

-- what answers whether one slip beats another answers R
abbrev pub Beats : {L : Type 0} → (Slip L → Slip L → Bool → Type 0) → (Slip L → Slip L → Bool) → Type 0
Beats {L} answers R = (s r : Slip L) (b : Bool) → answers s r b → b ≡ R s r

-- what was heard from each board, in order
abbrev pub row_of : {L : Type 0} → List (Slot L) → Row L
row_of l q = slice_index_or l q None

-- what board p heard in firm exchange c, where each fills a block of n rows of n
abbrev pub block_row : {L : Type 0} → ℕ → ℕ → List (Slot L) → ℕ → Row L
block_row n p h c = row_of (take n (drop (c * (n * n) + p * n) h))

-- what a board heard, by exchange
abbrev pub rows : {L : Type 0} → Heard L → ℕ → Row L
rows h = block_row h.size.boards h.p h.blocks.now
