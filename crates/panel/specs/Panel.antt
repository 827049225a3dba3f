-- A panel: its state, the calls on it, which of them are refused, and what the accepted ones change.
use Rattle.std.specs.Prelude.{◌≡◌, ℕ, zero, suc, ◌+◌, ◌-◌, ◌*◌, Bool, cond, not, ◌&&◌, ◌||◌, List, [], ◌∷◌, ◌++◌, map, length, drop, replicate, is_some, Some, None, Ok, Err, Option, Result, ◌==◌, nat_le, nat_lt, slice_index_or, slice_set}
use Rattle.std.specs.List.{range_with_len}
use Rattle.labels.specs.declared.refusal.Refusal.{Refusal}
use Rattle.labels.specs.Refusals.{row, first_row}
use Rattle.labels.specs.declared.slip.Slip.{Slip}
use Rattle.exchanges.specs.Boards.{count, fits}
use Rattle.exchanges.specs.Plane.{last_round}
use Rattle.exchanges.specs.Exchange.{Exchange, Ask, firm, plain, heard, after_ask}
use Rattle.panel.specs.Slots.{Slot, Comparison, with_phase, or_else}
use Rattle.panel.specs.Phase.{Row, choice, enough}

-- place 0 of a board is its estimate, place g from 1 to 8 its pick of phase g, place 9 its verdict
abbrev pub estimate_place : ℕ
estimate_place = 0

abbrev pub verdict_place : ℕ
verdict_place = 9

-- what board q holds at place k, in memory with ten slots for each board from place 10 * q
abbrev pub at : {L : Type 0} → List (Slot L) → ℕ → ℕ → Slot L
at slots q k = slice_index_or slots (10 * q + k) None

-- what n boards hold at one place, in order
abbrev pub column : {L : Type 0} → ℕ → List (Slot L) → ℕ → List (Slot L)
column n slots k = map (λ q. at slots q k) (range_with_len 0 n)

-- the slots at place k of boards 0 to n - 1 replaced
abbrev pub put : {L : Type 0} → ℕ → (ℕ → Slot L) → List (Slot L) → ℕ → List (Slot L)
put k c slots zero = slots
put k c slots (suc q) = slice_set (put k c slots q) (10 * q + k) (c q)

-- the first g firm exchanges of a phase: number 0 sends the estimates, and number k the picks of phase k
abbrev pub firsts : {L : Type 0} → ℕ → List (Slot L) → ℕ → List (Ask (Slip L))
firsts n slots zero = []
firsts n slots (suc g) = firsts n slots g ++ (firm (column n slots g) ∷ [])

-- Phase f of n boards over an exchange.
module _ {L : Type 0} (o : Comparison L) (n t f : ℕ) (x : Exchange (Slip L)) (slots : List (Slot L)) where
  -- what board p heard in firm exchange g
  abbrev pub firm_row : ℕ → ℕ → Row L
  firm_row p g q = heard n (x.fills (firsts n slots g) (firm (column n slots g))) p q

  abbrev pub new_pick : ℕ → Slot L
  new_pick p = with_phase f (choice o n t f (firm_row p 0) (firm_row p))

  unfoldable pub picked : List (Slot L)
  picked = put f new_pick slots n

  abbrev pub pick_row : ℕ → Row L
  pick_row p q = heard n (x.fills (firsts n slots f) (plain (column n picked f))) p q

  -- an estimate is kept where no pick was heard from enough boards
  abbrev pub new_estimate : ℕ → Slot L
  new_estimate p = or_else (with_phase f (enough o n (n - t) f (pick_row p))) (at picked p estimate_place)

  unfoldable pub estimated : List (Slot L)
  estimated = put estimate_place new_estimate picked n

  abbrev pub estimate_row : ℕ → Row L
  estimate_row p q = heard n (x.fills (firsts n slots f ++ (plain (column n picked f) ∷ [])) (plain (column n estimated estimate_place))) p q

  -- a verdict is kept for good
  abbrev pub new_verdict : ℕ → Slot L
  new_verdict p = or_else (at estimated p verdict_place) (with_phase f (enough o n (2 * t + 1) f (estimate_row p)))

  unfoldable pub decided : List (Slot L)
  decided = put verdict_place new_verdict estimated n

  -- the exchanges of the phase, in order
  unfoldable pub asks : List (Ask (Slip L))
  asks = firsts n slots f ++ (plain (column n picked f) ∷ plain (column n estimated estimate_place) ∷ [])

-- the same exchange after a list of exchanges
abbrev pub after_asks : {I : Type 0} → Exchange I → List (Ask I) → Exchange I
after_asks x [] = x
after_asks x (a ∷ l) = after_asks (after_ask x a) l

pub record State (L : Type 0) : Type 0 where
  -- 0 while it is not fitted
  pub boards : ℕ
  pub faults : ℕ
  -- how many phases have run
  pub phases : ℕ
  -- the memory given when it was made
  pub slots : List (Slot L)

-- the lengths of the blocks given to a phase
pub record Lengths : Type 0 where
  pub heard : ℕ
  pub picks : ℕ
  pub workspace : ℕ

abbrev pub sizes : ℕ → ℕ → ℕ → Lengths
sizes h p w = record { heard = h; picks = p; workspace = w }

-- a call on a panel
pub data Event (L : Type 0) : Type 0 where
  fit : ℕ → ℕ → Event L
  propose : ℕ → L → Event L
  phase : Exchange (Slip L) → Lengths → Event L
  verdict : ℕ → Event L

-- a new panel over its memory has no boards
abbrev pub new : {L : Type 0} → List (Slot L) → State L
new m = record { boards = 0; faults = 0; phases = 0; slots = m }

abbrev pub fitted : {L : Type 0} → State L → Bool
fitted s = nat_lt 0 s.boards

-- the table of refusals: each test with the number of its row, the earliest first
abbrev pub table : {L : Type 0} → State L → Event L → List (Bool × ℕ)
table s (fit n t) = (fitted s, 1) ∷ (not (fits n t), 2) ∷ (nat_lt (length s.slots) (10 * n), 10) ∷ []
table s (propose q v) = (not (fitted s), 3) ∷ (nat_le s.boards q, 4) ∷ (nat_lt 0 s.phases, 5) ∷ (is_some (at s.slots q estimate_place), 6) ∷ []
table s (phase x m) =
    (not (fitted s), 3)
    ∷ (nat_lt (count (λ q. is_some (at s.slots q estimate_place)) s.boards) s.boards, 7)
    ∷ (nat_le 8 s.phases, 8)
    ∷ (not (x.boards == s.boards && x.faults == s.faults), 9)
    ∷ (nat_lt m.heard (s.boards * s.boards) || (nat_lt m.picks (8 * (s.boards * s.boards)) || nat_lt m.workspace x.workspace), 10)
    ∷ (nat_lt last_round (x.round + (s.phases + 1) * x.firm_rounds + 2), 11)
    ∷ []
table s (verdict q) = (not (fitted s), 3) ∷ (nat_le s.boards q, 4) ∷ []

-- the number of the row by which a call is refused, or none
abbrev pub refusal : {L : Type 0} → State L → Event L → Option ℕ
refusal s e = first_row (table s e)

-- a phase that is the next
abbrev pub phased : {L : Type 0} → Comparison L → State L → Exchange (Slip L) → State L
phased o s x = record { boards = s.boards; faults = s.faults; phases = s.phases + 1; slots = decided o s.boards s.faults (s.phases + 1) x s.slots }

-- what an accepted call changes: fit silences the ten slots of each board, and leaves what lies beyond
abbrev pub change : {L : Type 0} → Comparison L → State L → Event L → State L
change o s (fit n t) = record { boards = n; faults = t; phases = 0; slots = replicate (10 * n) None ++ drop (10 * n) s.slots }
change o s (propose q v) = record { boards = s.boards; faults = s.faults; phases = s.phases; slots = slice_set s.slots (10 * q + estimate_place) (Some (record { label = v; phase = 0 })) }
change o s (phase x m) = phased o s x
change o s (verdict q) = s

-- a refused call changes nothing
abbrev pub step : {L : Type 0} → Comparison L → State L → Event L → State L
step o s e = cond (is_some (refusal s e)) s (change o s e)

abbrev pub run : {L : Type 0} → Comparison L → State L → List (Event L) → State L
run o s [] = s
run o s (e ∷ h) = run o (step o s e) h

-- the panel after a history
abbrev pub after : {L : Type 0} → Comparison L → List (Slot L) → List (Event L) → State L
after o m h = run o (new m) h

-- a call answers the refusal that is due, and is accepted where none is
abbrev pub Answers : {U : Type 0} → Option ℕ → Result U Refusal → Type 0
Answers d (Ok u) = d ≡ None
Answers d (Err e) = d ≡ Some (row e)

-- the same, where the accepted call answers a
abbrev pub AnswersWith : {A : Type 0} → Option ℕ → A → Result A Refusal → Type 0
AnswersWith d a (Ok b) = (d ≡ None) × (b ≡ a)
AnswersWith d a (Err e) = d ≡ Some (row e)

-- a refusal leaves b as a was
abbrev pub Unaltered : {U B : Type 0} → Result U Refusal → B → B → Type 0
Unaltered (Ok u) a b = Unit {0}
Unaltered (Err e) a b = b ≡ a

-- the exchange after a phase of the panel s: after its exchanges, or as it was
abbrev pub Exchanged : {L X U : Type 0} → Comparison L → (X → Exchange (Slip L)) → State L → X → X → Result U Refusal → Type 0
Exchanged o meaning s x x' (Ok u) = meaning x' ≡ after_asks (meaning x) (asks o s.boards s.faults (s.phases + 1) (meaning x) s.slots)
Exchanged o meaning s x x' (Err e) = x' ≡ x
