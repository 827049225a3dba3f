-- Readers of rows as loops: one value more, a fault, and the end.
use Rattle.std.proofs.lemmas.Grind.{common_steps}
use Rattle.std.proofs.Common.{◌≡◌, ℕ, suc, ◌+◌, ◌-◌, ◌<◌, List, [], ◌∷◌, ◌++◌, length, take, set, Ok, Err, Result, sym, refl, ap, ◌∙◌, append_assoc, arith}
use Rattle.std.proofs.lemmas.List.{take_more_set}
use Rattle.labels.specs.Faults.{Numbered}
use Rattle.script.specs.Readers.{Read, then}
use Rattle.script.specs.Fields.{many}
use Rattle.script.specs.Passes.{placed, Filled}

-- values that were read, in front of what is still to read
abbrev pub onto : {X : Type 0} → List X → Read (List X) → Read (List X)
onto ds (Ok y) = Ok (ds ++ y.0, y.1)
onto ds (Err e) = Err e

pub none_onto : {X : Type 0} (m : Read (List X)) → m ≡ onto [] m
none_onto (Ok y) = refl
none_onto (Err e) = refl

pub one_onto : {X : Type 0} (x : X) (ds : List X) (m : Read (List X)) → onto ds (then m (λ xs r. Ok (x ∷ xs, r))) ≡ onto (ds ++ (x ∷ [])) m
one_onto x ds (Ok y) = ap (λ l. Ok (l, y.1)) (sym (append_assoc ds (x ∷ []) y.0))
one_onto x ds (Err e) = refl

one_placed : {X : Type 0} (x : X) (m : Read (List X)) → placed (then m (λ xs r. Ok (x ∷ xs, r))) ≡ placed m
one_placed x (Ok y) = refl
one_placed x (Err e) = refl

module _ {X : Type 0} (f : List ℕ → ℕ → Read X) (b : List ℕ) (n i p : ℕ) (more : i < n) where
  left_more : n - i ≡ suc (n - (i + 1))
  left_more = omega arith

  pub placed_more : (x : X) (q : ℕ) → f b p ≡ Ok (x, q) → placed (many (n - i) f b p) ≡ placed (many (n - (i + 1)) f b q)
  placed_more x q e = rw (left_more, e) (one_placed x (many (n - (i + 1)) f b q))

  pub onto_more : (x : X) (q : ℕ) (ds : List X) → f b p ≡ Ok (x, q) → onto ds (many (n - i) f b p) ≡ onto (ds ++ (x ∷ [])) (many (n - (i + 1)) f b q)
  onto_more x q ds e = rw (left_more, e) (one_onto x ds (many (n - (i + 1)) f b q))

  -- the value stands in its place of the list
  pub filled_more : (x : X) (q : ℕ) (list : List X) (m : Read (List X)) → length list ≡ n → f b p ≡ Ok (x, q) → m ≡ onto (take i list) (many (n - i) f b p) → m ≡ onto (take (i + 1) (set list i x)) (many (n - (i + 1)) f b q)
  filled_more x q list m long e h = h ∙ onto_more x q (take i list) e ∙ ap (λ l. onto l (many (n - (i + 1)) f b q)) (sym (take_more_set list i x (omega arith)))

  pub filled_fault : (g : Numbered) (list now : List X) (m : Read (List X)) (r : Result ℕ Numbered) → f b p ≡ Err g → m ≡ onto (take i list) (many (n - i) f b p) → r ≡ Err g → Filled m r now
  filled_fault g list now m r e h u = grind (arith, common_steps)
