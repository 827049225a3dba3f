-- An exchange over a backplane: all that such exchanges share, so that a further one says only how a firm run goes.
use Rattle.std.specs.Prelude.{ℕ, ◌+◌, Bool, cond, List, [], ◌∷◌, Option, nat_le}
use Rattle.exchanges.specs.Boards.{fits}
use Rattle.exchanges.specs.Plane.{Plane, last_round}
use Rattle.exchanges.specs.Exchange.{Exchange, Ask, plain, firm, rounds}
use Rattle.exchanges.specs.Plain.{Heard, plain_run}

-- how firm exchanges go over a backplane
pub record Way (I : Type 0) : Type 0 where
  pub faults : ℕ
  pub firm_rounds : ℕ
  -- by the number of boards, where the counts fit
  pub workspace : ℕ → ℕ
  -- by the number of boards, the bad ones, the clear rounds and the round at which it begins
  pub steady : ℕ → (ℕ → Bool) → (ℕ → Bool) → ℕ → Bool
  pub firm_run : Plane I → List (Option I) → Heard I

-- one exchange, begun now
abbrev pub run : {I : Type 0} → Way I → Plane I → Ask I → Heard I
run w b (plain x) = plain_run b x
run w b (firm x) = w.firm_run b x

-- the backplane after an exchange, which is refused where it would pass the last round
abbrev pub next : {I : Type 0} → Way I → Plane I → Ask I → Plane I
next w b a = cond (nat_le (b.round + rounds w.firm_rounds a) last_round) (run w b a).plane b

abbrev pub after_all : {I : Type 0} → Way I → Plane I → List (Ask I) → Plane I
after_all w b [] = b
after_all w b (a ∷ l) = after_all w (next w b a) l

-- a plain exchange begun at round r goes in round r + 1; counts that do not fit need no workspace
abbrev pub over : {I : Type 0} → Way I → Plane I → Exchange I
over w b = record {
  boards = b.boards;
  faults = w.faults;
  bad = b.bad;
  round = b.round;
  firm_rounds = w.firm_rounds;
  clear = λ r. b.clear (r + 1);
  steady = λ r. w.steady b.boards b.bad b.clear r;
  workspace = cond (fits b.boards w.faults) (w.workspace b.boards) 0;
  fills = λ l a. (run w (after_all w b l) a).slots;
}
