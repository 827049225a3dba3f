-- The order of the carries, which no law of an exchange sees.
use Rattle.std.specs.Prelude.{◌≡◌, ℕ, ◌+◌, true, cond, ◌&&◌, List, [], ◌∷◌, ◌++◌, length, Some, None, Option, nat_eq, nat_lt}
use Rattle.exchanges.specs.Plane.{Plane}
use Rattle.exchanges.specs.Trees.{Hop, hops, filled, workspace, tree_run}

-- on a path, board q sends to the three boards
abbrev pub to_three : List ℕ → ℕ → List Hop
to_three α q = record { path = α; from = q; to = 0 } ∷ record { path = α; from = q; to = 1 } ∷ record { path = α; from = q; to = 2 } ∷ []

-- n boards, where each carry answers how many calls came before it
abbrev pub numbered : ℕ → Plane ℕ
numbered n = record {
  boards = n;
  bad = λ q. true;
  round = 0;
  clear = λ r. true;
  answer = λ l s d x. cond (nat_lt s n && nat_lt d n) (Some (length l)) None;
}

-- what board p's tree holds after two rounds of four boards: silence where different numbers are reduced, and a number at each path of two boards
abbrev pub numbers : ℕ → List (Option ℕ)
numbers p =
    None ∷ None ∷ None ∷ None
    ∷ Some (18 + p) ∷ Some (22 + p) ∷ Some (26 + p)
    ∷ Some (30 + p) ∷ Some (34 + p) ∷ Some (38 + p)
    ∷ Some (42 + p) ∷ Some (46 + p) ∷ Some (50 + p)
    ∷ Some (54 + p) ∷ Some (58 + p) ∷ Some (62 + p)
    ∷ []

-- carries run by path, then by sender, then by receiver
pub record InOrder : Type 0 where
  -- the carries of three boards, round by round; a path has its last board first
  pub first_round : hops 3 0 ≡ to_three [] 0 ++ to_three [] 1 ++ to_three [] 2
  pub second_round : hops 3 1 ≡ to_three (0 ∷ []) 1 ++ to_three (0 ∷ []) 2 ++ to_three (1 ∷ []) 0 ++ to_three (1 ∷ []) 2 ++ to_three (2 ∷ []) 0 ++ to_three (2 ∷ []) 1
  pub third_round : hops 3 2 ≡ to_three (1 ∷ 0 ∷ []) 2 ++ to_three (2 ∷ 0 ∷ []) 1 ++ to_three (0 ∷ 1 ∷ []) 2 ++ to_three (2 ∷ 1 ∷ []) 0 ++ to_three (0 ∷ 2 ∷ []) 1 ++ to_three (1 ∷ 2 ∷ []) 0
  -- whole runs in which each answer is the number of calls before it, turns among them
  pub three_boards : (tree_run nat_eq 0 (numbered 3) []).slots ≡ Some 1 ∷ Some 4 ∷ Some 7 ∷ Some 2 ∷ Some 5 ∷ Some 8 ∷ Some 3 ∷ Some 6 ∷ Some 9 ∷ []
  pub four_boards : workspace nat_eq 4 1 (filled 4 2 (numbered 4) []).trees ≡ numbers 0 ++ numbers 1 ++ numbers 2 ++ numbers 3
