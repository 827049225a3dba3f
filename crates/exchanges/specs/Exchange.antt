-- What an exchange means.
use Rattle.std.specs.Prelude.{◌≡◌, ℕ, ◌+◌, ◌*◌, ◌<◌, ◌≤◌, Bool, true, cond, ◌⊎◌, List, [], ◌∷◌, ◌++◌, length, None, Option, nat_le, slice_index_or}
use Rattle.exchanges.specs.Boards.{fits, count, Sound}
use Rattle.exchanges.specs.Plane.{last_round}

-- an exchange asked for, with what the boards send, one slot from each
pub data Ask (I : Type 0) : Type 0 where
  plain : List (Option I) → Ask I
  firm : List (Option I) → Ask I

abbrev pub sent : {I : Type 0} → Ask I → List (Option I)
sent (plain x) = x
sent (firm x) = x

-- how many rounds an exchange takes, where a firm one takes f
abbrev pub rounds : {I : Type 0} → ℕ → Ask I → ℕ
rounds f (plain x) = 1
rounds f (firm x) = f

pub record Exchange (I : Type 0) : Type 0 where
  pub boards : ℕ
  pub faults : ℕ
  pub bad : ℕ → Bool
  pub round : ℕ
  -- how many rounds a firm exchange takes
  pub firm_rounds : ℕ
  -- whether a plain exchange begun at this round is clear, and whether a firm one is steady
  pub clear : ℕ → Bool
  pub steady : ℕ → Bool
  -- how many slots a firm exchange works in
  pub workspace : ℕ
  -- what an exchange would fill after the listed ones: place p * boards + q holds what p heard from q
  pub fills : List (Ask I) → Ask I → List (Option I)

-- what p heard from q
abbrev pub heard : {I : Type 0} → ℕ → List (Option I) → ℕ → ℕ → Option I
heard n h p q = slice_index_or h (p * n + q) None

-- the round number after an exchange, which is refused where it would pass the last round
abbrev pub round_on : {I : Type 0} → ℕ → ℕ → Ask I → ℕ
round_on f r a = cond (nat_le (r + rounds f a) last_round) (r + rounds f a) r

-- the round number after a list of exchanges, the earliest first
abbrev pub round_after : {I : Type 0} → ℕ → ℕ → List (Ask I) → ℕ
round_after f r [] = r
round_after f r (a ∷ l) = round_after f (round_on f r a) l

-- the same exchange after one is done: a further list fills what it would have filled
abbrev pub after_ask : {I : Type 0} → Exchange I → Ask I → Exchange I
after_ask x a = record {
  boards = x.boards;
  faults = x.faults;
  bad = x.bad;
  round = round_on x.firm_rounds x.round a;
  firm_rounds = x.firm_rounds;
  clear = x.clear;
  steady = x.steady;
  workspace = x.workspace;
  fills = λ l. x.fills (a ∷ l);
}

-- each of the exchanges has one slot from each of n boards
abbrev pub AllSized : {I : Type 0} → ℕ → List (Ask I) → Type 0
AllSized n [] = Unit {0}
AllSized n (a ∷ l) = (length (sent a) ≡ n) × AllSized n l

-- an exchange asked for after the listed ones, and not refused for its counts or its rounds
pub record Goes {I : Type 0} (x : Exchange I) (l : List (Ask I)) (a : Ask I) : Type 0 where
  pub fit : fits x.boards x.faults ≡ true
  pub sized : length (sent a) ≡ x.boards
  pub all_sized : AllSized x.boards l
  pub timely : round_after x.firm_rounds x.round l + rounds x.firm_rounds a ≤ last_round

-- at most as many boards are bad as the exchange bears
abbrev pub Few : {I : Type 0} → Exchange I → Type 0
Few x = count x.bad x.boards ≤ x.faults

-- whether an exchange begun at this round is clear or steady
abbrev pub good : {I : Type 0} → Exchange I → ℕ → Ask I → Bool
good x r (plain s) = x.clear r
good x r (firm s) = x.steady r

-- what every exchange keeps
pub record Keeps {I : Type 0} (x : Exchange I) : Type 0 where
  pub longer : 1 ≤ x.firm_rounds
  -- it fills one slot for each pair of boards
  pub whole : (l : List (Ask I)) (a : Ask I) → Goes x l a → length (x.fills l a) ≡ x.boards * x.boards
  -- an exchange that is refused for its rounds alters nothing
  pub stays : fits x.boards x.faults ≡ true → (l m : List (Ask I)) (a a' : Ask I) → last_round < round_after x.firm_rounds x.round l + rounds x.firm_rounds a → x.fills (l ++ (a ∷ m)) a' ≡ x.fills (l ++ m) a'
  -- a sound board hears from a sound board what it sent, or silence
  pub faithful : Few x → (l : List (Ask I)) (a : Ask I) → Goes x l a → (p q : ℕ) → Sound x.boards x.bad p → Sound x.boards x.bad q → (heard x.boards (x.fills l a) p q ≡ slice_index_or (sent a) q None) ⊎ (heard x.boards (x.fills l a) p q ≡ None)
  -- and just what it sent, if the exchange is clear or steady
  pub delivers : Few x → (l : List (Ask I)) (a : Ask I) → Goes x l a → good x (round_after x.firm_rounds x.round l) a ≡ true → (p q : ℕ) → Sound x.boards x.bad p → Sound x.boards x.bad q → heard x.boards (x.fills l a) p q ≡ slice_index_or (sent a) q None
  -- after a steady firm exchange all sound boards hear the same from every board
  pub agrees : Few x → (l : List (Ask I)) (s : List (Option I)) → Goes x l (firm s) → x.steady (round_after x.firm_rounds x.round l) ≡ true → (p p' q : ℕ) → Sound x.boards x.bad p → Sound x.boards x.bad p' → q < x.boards → heard x.boards (x.fills l (firm s)) p q ≡ heard x.boards (x.fills l (firm s)) p' q
