-- A total order, by its comparison.
use Rattle.std.specs.Prelude.{◌≡◌, ℕ, ◌<◌, List, length, Some, None, Option, ◌≢◌, slice_index_or}
use Rattle.std.specs.declared.cmp.Ordering.TheVariants.{Less, Equal}
use Rattle.std.specs.declared.cmp.Ordering.{Ordering}
use Rattle.std.specs.Ordering.{ordering_reverse}

-- Of any two values exactly one holds, smaller, the same or larger: the comparison has one answer, which is
-- Equal just where both are the same, and Greater just where the second is smaller. Smaller is transitive.
pub record Total {L : Type 0} (order : L → L → Ordering) : Type 0 where
  pub itself : (a : L) → order a a ≡ Equal
  pub same : (a b : L) → order a b ≡ Equal → a ≡ b
  pub turned : (a b : L) → order b a ≡ ordering_reverse (order a b)
  pub through : (a b c : L) → order a b ≡ Less → order b c ≡ Less → order a c ≡ Less

-- the place of the smallest of a list: smaller than all before it, and none after it is smaller; none in an empty list
abbrev pub SmallestAt : {L : Type 0} → (L → L → Ordering) → List L → Option ℕ → Type 0
SmallestAt order xs None = length xs ≡ 0
SmallestAt {L} order xs (Some k) =
    (k < length xs)
    × ((j : ℕ) (d : L) → j < k → order (slice_index_or xs k d) (slice_index_or xs j d) ≡ Less)
    × ((j : ℕ) (d : L) → k < j → j < length xs → order (slice_index_or xs j d) (slice_index_or xs k d) ≢ Less)
