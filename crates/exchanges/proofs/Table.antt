-- A rule of a table of rows, proved at all of its entries by one computed test.
use Rattle.std.proofs.Common.{◌≡◌, ℕ, zero, suc, ◌-◌, ◌<◌, ◌≤◌, Bool, true, ◌&&◌, eqb, leb, List, [], ◌∷◌, get_or, refl, ap, ◌∙◌, inl, inr, arith}
use Rattle.std.proofs.lemmas.Bool.{and_parts, cases_eq, eqb-true, leb-true}
use Rattle.exchanges.specs.Boards.{most_boards}
use Rattle.exchanges.specs.Trees.{start, paths_of}

-- whether a test passes at every number below m
abbrev pub passes : (ℕ → Bool) → ℕ → Bool
passes f zero = true
passes f (suc m) = passes f m && f m

pub passed : (f : ℕ → Bool) (m i : ℕ) → passes f m ≡ true → i < m → f i ≡ true
passed f zero i e l = absurd (omega arith)
passed f (suc m) i e l = let parts = and_parts (passes f m) (f m) e in elim (cases_eq i m) [ inl d ↦ ap f d ∙ parts.1 | inr d ↦ passed f m i parts.0 (omega arith) ]

-- the table of the code
abbrev levels : List (List ℕ)
levels = (0 ∷ 1 ∷ 1 ∷ 1 ∷ []) ∷ (0 ∷ 2 ∷ 4 ∷ 4 ∷ []) ∷ (0 ∷ 3 ∷ 9 ∷ 15 ∷ []) ∷ (0 ∷ 4 ∷ 16 ∷ 40 ∷ []) ∷ (0 ∷ 5 ∷ 25 ∷ 85 ∷ []) ∷ (0 ∷ 6 ∷ 36 ∷ 156 ∷ []) ∷ (0 ∷ 7 ∷ 49 ∷ 259 ∷ []) ∷ []

pub level_rule : (n k : ℕ) → 1 ≤ n → n ≤ most_boards → 1 ≤ k → k ≤ 4 → get_or (get_or levels (n - 1) []) (k - 1) 0 ≡ start n k
level_rule n k pos ln one lk =
    let right : ℕ → ℕ → Bool = λ m j. eqb (get_or (get_or levels m []) j 0) (start (suc m) (suc j)) in
    let entry = passed (right (n - 1)) 4 (k - 1) (passed (λ m. passes (right m) 4) most_boards (n - 1) refl (omega arith)) (omega arith) in
    let row_is : suc (n - 1) ≡ n = omega arith in
    let is : suc (k - 1) ≡ k = omega arith in
    eqb-true _ _ entry ∙ ap (λ (m : ℕ). start m (suc (k - 1))) row_is ∙ ap (start n) is

pub paths_small : (n k : ℕ) → n ≤ most_boards → k ≤ 3 → paths_of n k ≤ 210
paths_small n k ln lk = leb-true _ _ (passed (λ j. leb (paths_of n j) 210) 4 k (passed (λ m. passes (λ j. leb (paths_of m j) 210) 4) 8 n refl (omega arith)) (omega arith))
