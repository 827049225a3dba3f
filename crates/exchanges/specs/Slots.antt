-- The trees of all boards in one list of slots, filled and reduced in place. Only inner contracts speak of it.
use Rattle.std.specs.Prelude.{◌≡◌, ℕ, zero, suc, ◌+◌, ◌-◌, ◌*◌, ◌<◌, ◌≤◌, Bool, List, [], ◌∷◌, map, length, get_or, None, fold, Option, slice_index, slice_index_or, slice_set}
use Rattle.std.specs.List.{range_with_len, flat_map}
use Rattle.std.specs.Coded.{Unit-prop, le_prop}
use Rattle.std.proofs.Math.Bool.{Bool-set}
use Rattle.exchanges.specs.Plane.{Plane, carry, after}
use Rattle.exchanges.specs.Trees.{IsPath, Trees, Hop, place, level, others, reduce}

-- the path in the first k entries of a list, the last board first
abbrev pub trail : List ℕ → ℕ → List ℕ
trail bs zero = []
trail bs (suc k) = slice_index bs k ∷ trail bs k

-- a list is a path in at most one way
pub path_prop : (n : ℕ) (α : List ℕ) → IsProp (IsPath n α)
path_prop n [] = Unit-prop
path_prop n (q ∷ α) = let rest = path_prop n α in Prim.hlevel (le_prop, Bool-set, rest)

-- the slot of a board and a path, in trees of the given size
abbrev pub slot : ℕ → ℕ → ℕ → List ℕ → ℕ
slot n size p α = p * size + place n α

-- what a board's tree holds; at the empty path, what the board itself sends
abbrev pub held : {I : Type 0} → ℕ → ℕ → List (Option I) → List (Option I) → ℕ → List ℕ → Option I
held n size own ws q [] = slice_index_or own q None
held n size own ws q (a ∷ α) = slice_index_or ws (slot n size q (a ∷ α)) None

-- a backplane with the slots filled so far
pub record Work (I : Type 0) : Type 0 where
  pub plane : Plane I
  pub slots : List (Option I)

-- one carry
abbrev pub carried : {I : Type 0} → ℕ → ℕ → List (Option I) → Work I → Hop → Work I
carried n size own w h = record {
  plane = after w.plane (carry h.from h.to (held n size own w.slots h.from h.path));
  slots = slice_set w.slots (slot n size h.to (h.from ∷ h.path)) (w.plane.answer [] h.from h.to (held n size own w.slots h.from h.path));
}

-- a backplane and slots are those of a piece of work
pub record Worked {I : Type 0} (b : Plane I) (ws : List (Option I)) (w : Work I) : Type 0 where
  pub plane_is : b ≡ w.plane
  pub slots_is : ws ≡ w.slots

-- the carries from one board on one path, by receiver
abbrev pub hops_from : ℕ → List ℕ → ℕ → List Hop
hops_from n α q = map (λ p. record { path = α; from = q; to = p }) (range_with_len 0 n)

-- the carries that fill a path's slots, from its last board, by receiver
abbrev pub hops_to : ℕ → List ℕ → List Hop
hops_to n [] = []
hops_to n (q ∷ α) = hops_from n α q

-- the slots hold the trees, and the empty path what is sent
pub record Stands {I : Type 0} (n t size : ℕ) (own ws : List (Option I)) (T : Trees I) : Type 0 where
  pub sends : (q : ℕ) → q < n → T q [] ≡ slice_index_or own q None
  pub holds : (p : ℕ) (α : List ℕ) → p < n → IsPath n α → 1 ≤ length α → length α ≤ t + 1 → slice_index_or ws (slot n size p α) None ≡ T p α

-- a path of a board
pub record Spot : Type 0 where
  pub board : ℕ
  pub path : List ℕ

-- one path of one board reduced
abbrev pub settle : {I : Type 0} → (I → I → Bool) → ℕ → ℕ → ℕ → List (Option I) → Spot → List (Option I)
settle same n t size ws s = slice_set ws (slot n size s.board s.path) (reduce same n t (length s.path) (map (λ q. get_or ws (slot n size s.board (q ∷ s.path)) None) (others n s.path)))

-- one path for every board
abbrev pub spots_on : ℕ → List ℕ → List Spot
spots_on n α = map (λ p. record { board = p; path = α }) (range_with_len 0 n)

-- all paths of k boards for every board
abbrev pub spots : ℕ → ℕ → List Spot
spots n k = flat_map (spots_on n) (level n k)

-- the first j levels reduced, from the longest paths but the leaves
abbrev pub reduced_down : {I : Type 0} → (I → I → Bool) → ℕ → ℕ → ℕ → List (Option I) → ℕ → List (Option I)
reduced_down same n t size ws zero = ws
reduced_down same n t size ws (suc j) = fold (settle same n t size) (reduced_down same n t size ws j) (spots n (t - j))
