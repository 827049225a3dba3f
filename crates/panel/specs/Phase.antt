-- What one board works out from what it heard. A row gives what was heard from each board, and silence adds nothing.
use Rattle.std.specs.Prelude.{ℕ, zero, suc, ◌+◌, ◌-◌, Bool, false, cond, ◌&&◌, ◌||◌, is_some, Some, None, Option, ◌==◌, nat_le, nat_lt}
use Rattle.exchanges.specs.Boards.{count}
use Rattle.labels.specs.declared.slip.Slip.{Slip}
use Rattle.panel.specs.Slots.{Slot, Comparison, same, smaller, has_label, is_slip, label_of}

abbrev pub Row : Type 0 → Type 0
Row L = ℕ → Slot L

-- a claim with the number of this phase or a later one counts as silence
abbrev pub as_claim : {L : Type 0} → ℕ → Slot L → Slot L
as_claim f None = None
as_claim f (Some s) = cond (nat_lt s.phase f) (Some s) None

-- a pick of phase g with another number counts as silence
abbrev pub as_pick : {L : Type 0} → ℕ → Slot L → Slot L
as_pick g None = None
as_pick g (Some s) = cond (s.phase == g) (Some s) None

-- whether a claim has label v or a number below c
abbrev pub supports : {L : Type 0} → Comparison L → L → ℕ → Slot L → Bool
supports o v c None = false
supports o v c (Some s) = same o v s.label || nat_lt s.phase c

abbrev pub unphased : {L : Type 0} → Slot L → Bool
unphased None = false
unphased (Some s) = s.phase == 0

-- ahead by a measure, or level and of the label that wins the tie
abbrev pub ahead : {L : Type 0} → (L → L → Bool) → (Slip L → ℕ) → Slip L → Slip L → Bool
ahead wins M s r = nat_lt (M r) (M s) || (M r == M s && wins s.label r.label)

-- the better of two slots, where silence is the worst
abbrev pub better : {L : Type 0} → (Slip L → Slip L → Bool) → Slot L → Slot L → Slot L
better beats None b = b
better beats (Some s) None = Some s
better beats (Some s) (Some r) = cond (beats s r) (Some s) (Some r)

-- the best in a row of those from boards 0 to n - 1
abbrev pub best : {L : Type 0} → (Slip L → Slip L → Bool) → Row L → ℕ → Slot L
best beats row zero = None
best beats row (suc q) = better beats (row q) (best beats row q)

-- only the slips that pass a test
abbrev pub only : {L : Type 0} → (Slip L → Bool) → Slot L → Slot L
only P None = None
only P (Some s) = cond (P s) (Some s) None

module _ {L : Type 0} (o : Comparison L) where
  -- the greater number is ahead, then the smaller label
  abbrev pub later : Slip L → Slip L → Bool
  later = ahead (smaller o) (λ s. s.phase)

  -- which of two labels that were heard equally often wins
  abbrev pub wins_often : L → L → Bool
  wins_often = smaller o

module _ {L : Type 0} (o : Comparison L) (n : ℕ) where
  abbrev pub times : Row L → L → ℕ
  times row v = count (λ q. has_label o v (row q)) n

  -- a claim of the label heard most often
  abbrev pub most_often : Row L → Slot L
  most_often claims = best (ahead (wins_often o) (λ s. times claims s.label)) claims n

  abbrev pub heard_enough : ℕ → ℕ → Row L → Slip L → Bool
  heard_enough k f row s = s.phase == f && nat_le k (count (λ q. is_slip o s.label f (row q)) n)

  -- the slip of the smallest label v such that (v, f) was heard at least k times
  abbrev pub best_heard : ℕ → ℕ → Row L → Slot L
  best_heard k f row = best (later o) (λ q. only (heard_enough k f row) (row q)) n

  -- that label
  unfoldable pub enough : ℕ → ℕ → Row L → Option L
  enough k f row = label_of (best_heard k f row)

module _ {L : Type 0} (o : Comparison L) (n t : ℕ) where
  -- a claim stands on the claims and on the picks of its phase
  abbrev pub stands : Row L → (ℕ → Row L) → Slip L → Bool
  stands claims picks s = nat_lt 0 s.phase && (nat_le (n - t) (count (λ q. supports o s.label s.phase (claims q)) n) && nat_le (t + 1) (count (λ q. is_slip o s.label s.phase (picks s.phase q)) n))

  -- the standing claim of the greatest number, then the smallest label
  abbrev pub standing : Row L → (ℕ → Row L) → Slot L
  standing claims picks = best (later o) (λ q. only (stands claims picks) (claims q)) n

  abbrev pub fallback : Row L → Slot L
  fallback claims = cond (nat_le (n - t) (count (λ q. unphased (claims q)) n)) (most_often o n claims) None

  -- the choice, from claims and picks of which some already count as silence
  abbrev pub choice_of : Row L → (ℕ → Row L) → Option L
  choice_of claims picks = label_of (cond (is_some (standing claims picks)) (standing claims picks) (fallback claims))

  -- the choice of phase f
  unfoldable pub choice : ℕ → Row L → (ℕ → Row L) → Option L
  choice f claims picks = choice_of (λ q. as_claim f (claims q)) (λ g q. as_pick g (picks g q))
