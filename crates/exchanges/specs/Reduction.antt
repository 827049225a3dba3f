-- The reduction of a path in words, apart from how it is worked out.
use Rattle.std.specs.Prelude.{◌≡◌, ℕ, suc, ◌-◌, ◌<◌, ◌≤◌, Bool, true, List, [], ◌∷◌, length, Some, None, Option, ◌≢◌}
use Rattle.labels.specs.Item.{Tells}
use Rattle.exchanges.specs.Boards.{fits}
use Rattle.exchanges.specs.Trees.{reduce}

-- just m of the slots hold x
pub data Held {I : Type 0} (x : I) : ℕ → List (Option I) → Type 0 where
  end : Held x 0 []
  holding : {m : ℕ} {l : List (Option I)} → Held x m l → Held x (suc m) (Some x ∷ l)
  other : {m : ℕ} {l : List (Option I)} (o : Option I) → (o ≢ Some x) → Held x m l → Held x m (o ∷ l)

-- what a path of k boards gets, whose n − k children are given
pub record Reduces {I : Type 0} (n t k : ℕ) (children : List (Option I)) (got : Option I) : Type 0 where
  -- an item that at least n − k − t of them hold
  pub enough : (x : I) (m : ℕ) → Held x m children → n - k - t ≤ m → got ≡ Some x
  -- silence, if no item is held so often
  pub too_few : ((x : I) (m : ℕ) → Held x m children → m < n - k - t) → got ≡ None

abbrev pub ReducesRightly : Type 0 → Type 0
ReducesRightly I = (same : I → I → Bool) → Tells same → (n t k : ℕ) → fits n t ≡ true → k ≤ t → (children : List (Option I)) → length children ≡ n - k → Reduces n t k children (reduce same n t k children)
