-- A backplane with lines cut.
use Rattle.std.specs.Prelude.{ℕ, zero, suc, Bool, true, cond, not, ◌&&◌, ◌||◌, List, [], ◌∷◌, None, slice_index}
use Rattle.exchanges.specs.Boards.{bit}
use Rattle.exchanges.specs.Plane.{Plane, Call, turn, carry}
use Rattle.exchanges.specs.declared.cut_lines.CutLines.{CutLines}

-- whether the line from s to d is cut: rows has a map of receivers for each sender
abbrev pub cut : List ℕ → ℕ → ℕ → Bool
cut rows s d = bit (slice_index rows s) d

-- the calls that reach the backplane below: all but the carries on cut lines
abbrev pub passed : {I : Type 0} → List ℕ → List (Call I) → List (Call I)
passed rows [] = []
passed rows (turn ∷ l) = turn ∷ passed rows l
passed rows (carry s d x ∷ l) = cond (cut rows s d) (passed rows l) (carry s d x ∷ passed rows l)

-- whether the test holds of each number below n
abbrev pub each_below : (ℕ → Bool) → ℕ → Bool
each_below f zero = true
each_below f (suc n) = f n && each_below f n

-- whether no cut joins two sound boards of n
abbrev pub uncut : List ℕ → (ℕ → Bool) → ℕ → Bool
uncut rows bad n = each_below (λ s. each_below (λ d. bad s || (bad d || not (cut rows s d))) n) n

-- silence on a cut line, and else what the backplane below answers
abbrev pub cut_plane : {I : Type 0} → List ℕ → Plane I → Plane I
cut_plane rows b = record {
  boards = b.boards;
  bad = b.bad;
  round = b.round;
  clear = λ r. b.clear r && uncut rows b.bad b.boards;
  answer = λ l s d x. cond (cut rows s d) None (b.answer (passed rows l) s d x);
}

-- what the backplane means, by what the one below means
abbrev pub cut_lines_plane : {I B : Type 0} → (B → Plane I) → CutLines B → Plane I
cut_lines_plane plane b = cut_plane b.rows (plane b.below)
