-- What the code of a firm exchange leaves, as its meaning says it. Assumes nothing.
use Rattle.std.proofs.lemmas.Grind.{common_steps}
use Rattle.std.proofs.Common.{◌≡◌, ℕ, ◌+◌, ◌*◌, Bool, ◌||◌, ltb, List, [], ◌∷◌, ◌++◌, length, take, drop, Ok, Err, Option, Result, sym, ap, ◌∙◌, arith}
use Rattle.std.proofs.lemmas.List.{length-append, length-drop, drop_at}
use Rattle.std.proofs.lemmas.Bool.{cond-true, ltb-false, or_parts}
use Rattle.labels.specs.declared.refusal.Refusal.{Refusal}
use Rattle.exchanges.specs.Boards.{fits}
use Rattle.exchanges.specs.Plane.{Plane}
use Rattle.exchanges.specs.Asked.{due, short, Kept}
use Rattle.exchanges.specs.Ran.{Ran}
use Rattle.exchanges.specs.Trees.{tree_size, grid, filled, reduced, workspace, tree_run, tree_meaning}
use Rattle.exchanges.specs.Left.{Left}
use Rattle.exchanges.proofs.Dues.{undue}

-- the backplane and what is heard after a run for n boards of which t may be bad
pub record Done {I : Type 0} (same : I → I → Bool) (b b' : Plane I) (s h h' : List (Option I)) (n t : ℕ) : Type 0 where
  pub plane : b' ≡ (filled n (t + 1) b (take n s)).plane
  pub heard : h' ≡ grid n (λ p q. reduced same n t (filled n (t + 1) b (take n s)).trees t p (q ∷ [])) ++ drop (n * n) h

pub done_at : {I : Type 0} (same : I → I → Bool) (b b' : Plane I) (s h h' : List (Option I)) (n m t f : ℕ) → n ≡ m → t ≡ f → Done same b b' s h h' n t → Done same b b' s h h' m f
done_at same b b' s h h' n m t f en et k = grind (arith, common_steps)

-- what is left keeps the slots past the workspace
pub left_kept : {I B U : Type 0} (same : I → I → Bool) (t : ℕ) (plane : B → Plane I) (b b' : B) (s h h' w w' : List (Option I)) (r : Result U Refusal) → Ran plane (tree_run same t) b b' s (due (plane b).boards t (short (plane b).boards s h || ltb (length w) (tree_meaning same t (plane b)).workspace) (plane b).round (t + 1)) h h' r → Left same t (plane b) s w w' r → length w' ≡ length w → Kept (tree_meaning same t (plane b)).workspace w w' r
left_kept {I} same t plane b b' s h h' w w' (Ok u) k left long =
    let n = (plane b).boards in
    let m = n * tree_size n t in
    let W = workspace same n t (filled n (t + 1) (plane b) (take n s)).trees in
    let goes = undue n t (plane b).round (t + 1) (short n s h || ltb (length w) (tree_meaning same t (plane b)).workspace) k.0 in
    let all : (tree_meaning same t (plane b)).workspace ≡ m = cond-true (fits n t) m 0 goes.fit in
    let room = ltb-false _ _ (or_parts (short n s h) (ltb (length w) (tree_meaning same t (plane b)).workspace) goes.room).1 in
    let whole : length W ≡ m = omega (arith, ap length left, length-append W (drop m w), length-drop m w) in
    ap (λ (x : ℕ). drop x w') all ∙ ap (drop m) left ∙ drop_at W (drop m w) m whole ∙ sym (ap (λ (x : ℕ). drop x w) all)
left_kept same t plane b b' s h h' w w' (Err e) k left long = left
