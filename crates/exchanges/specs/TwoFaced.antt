-- A backplane whose bad boards give odd receivers one fixed item. All else passes as sent, and every round is clear.
use Rattle.std.specs.Prelude.{ℕ, ◌%◌, true, cond, ◌&&◌, Some, None, Option, ◌==◌, nat_lt}
use Rattle.exchanges.specs.Boards.{bit}
use Rattle.exchanges.specs.Plane.{Plane}
use Rattle.exchanges.specs.declared.two_faced.TwoFaced.{TwoFaced}

-- what d hears of n boards where s sends x
abbrev pub two_faced_answer : {I : Type 0} → ℕ → ℕ → I → ℕ → ℕ → Option I → Option I
two_faced_answer n bad fixed s d x =
    cond (nat_lt s n && nat_lt d n) (cond (bit bad s && d % 2 == 1) (Some fixed) x) None

abbrev pub two_faced : {I : Type 0} → ℕ → ℕ → I → ℕ → Plane I
two_faced n bad fixed round = record {
  boards = n;
  bad = λ p. bit bad p;
  round = round;
  clear = λ r. true;
  answer = λ l s d x. two_faced_answer n bad fixed s d x;
}

-- what the backplane means
abbrev pub two_faced_plane : {I : Type 0} → TwoFaced I → Plane I
two_faced_plane b = two_faced b.boards b.bad b.fixed b.round
