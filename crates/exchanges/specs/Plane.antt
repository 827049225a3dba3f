-- What a backplane means.
use Rattle.std.specs.Prelude.{◌≡◌, ℕ, ◌+◌, ◌<◌, ◌≤◌, Bool, true, cond, ◌⊎◌, List, [], ◌∷◌, ◌++◌, None, Ok, Err, Option, Result, nat_lt}
use Rattle.labels.specs.declared.refusal.Refusal.{Refusal}
use Rattle.labels.specs.Refusals.{row}
use Rattle.exchanges.specs.Boards.{Sound}

-- the last round number that there is
abbrev pub last_round : ℕ
last_round = 65535

-- a call on a backplane: a turn, or a carry from one board to another of an item or of silence
pub data Call (I : Type 0) : Type 0 where
  turn : Call I
  carry : ℕ → ℕ → Option I → Call I

-- the round number after a turn, which is refused at the last round
abbrev pub next_round : ℕ → ℕ
next_round r = cond (nat_lt r last_round) (r + 1) r

-- the round number after a list of calls, the earliest first
abbrev pub round_after : {I : Type 0} → ℕ → List (Call I) → ℕ
round_after r [] = r
round_after r (turn ∷ l) = round_after (next_round r) l
round_after r (carry s d x ∷ l) = round_after r l

pub record Plane (I : Type 0) : Type 0 where
  pub boards : ℕ
  pub bad : ℕ → Bool
  pub round : ℕ
  -- whether a round loses nothing between sound boards
  pub clear : ℕ → Bool
  -- what a carry would answer after the listed calls
  pub answer : List (Call I) → ℕ → ℕ → Option I → Option I

-- the same backplane after one call: a further list answers what it would have answered
abbrev pub after : {I : Type 0} → Plane I → Call I → Plane I
after b c = record {
  boards = b.boards;
  bad = b.bad;
  round = round_after b.round (c ∷ []);
  clear = b.clear;
  answer = λ l. b.answer (c ∷ l);
}

-- what every backplane keeps
pub record Keeps {I : Type 0} (b : Plane I) : Type 0 where
  -- from a sound sender comes what was sent, or silence
  pub faithful : (l : List (Call I)) (s d : ℕ) (x : Option I) → Sound b.boards b.bad s → (b.answer l s d x ≡ x) ⊎ (b.answer l s d x ≡ None)
  -- between sound boards in a clear round, what was sent
  pub clears : (l : List (Call I)) (s d : ℕ) (x : Option I) → Sound b.boards b.bad s → Sound b.boards b.bad d → b.clear (round_after b.round l) ≡ true → b.answer l s d x ≡ x
  -- for a number that is no board's, silence
  pub no_sender : (l : List (Call I)) (s d : ℕ) (x : Option I) → b.boards ≤ s → b.answer l s d x ≡ None
  pub no_receiver : (l : List (Call I)) (s d : ℕ) (x : Option I) → b.boards ≤ d → b.answer l s d x ≡ None
  -- a turn that is refused alters nothing
  pub stays : (l m : List (Call I)) (s d : ℕ) (x : Option I) → last_round ≤ round_after b.round l → b.answer (l ++ (turn ∷ m)) s d x ≡ b.answer (l ++ m) s d x

-- what a turn answers and leaves: it turns below the last round, and there refuses and leaves the backplane as it is
abbrev pub Turned : {I S U : Type 0} → (S → Plane I) → S → S → Result U Refusal → Type 0
Turned plane s t (Ok u) = ((plane s).round < last_round) × (plane t ≡ after (plane s) turn)
Turned plane s t (Err e) = (row e ≡ 11) × (last_round ≤ (plane s).round) × (t ≡ s)

-- what a carry answers and leaves
pub record Carried {I : Type 0} (b b' : Plane I) (s d : ℕ) (x r : Option I) : Type 0 where
  pub answers : r ≡ b.answer [] s d x
  pub leaves : b' ≡ after b (carry s d x)
