-- The tree exchange: how a firm exchange fills every board's tree, and what each board hears.
use Rattle.std.specs.Prelude.{◌≡◌, ℕ, zero, suc, ◌+◌, ◌-◌, ◌*◌, ◌/◌, ◌%◌, ◌<◌, ◌≤◌, Bool, true, false, cond, not, ◌&&◌, ◌||◌, List, [], ◌∷◌, map, length, Some, None, fold, count_by, filter, Option, ◌==◌, nat_le, nat_lt, slice_index_or}
use Rattle.std.specs.List.{range_with_len, flat_map}
use Rattle.labels.specs.Item.{Tells}
use Rattle.exchanges.specs.Plane as planes
use Rattle.exchanges.specs.Plane.{Plane, turn, carry, after}
use Rattle.exchanges.specs.Exchange.{Exchange, Keeps}
use Rattle.exchanges.specs.Plain.{Heard}
use Rattle.exchanges.specs.Over.{Way, over}
use Rattle.exchanges.specs.declared.tree.Tree.{Tree}

-- A path is a list of different boards, the last board first: `q ∷ α` is the path α with q added.

-- whether a board stands on a path
abbrev pub on : ℕ → List ℕ → Bool
on q [] = false
on q (a ∷ α) = q == a || on q α

-- a list of different boards below n
abbrev pub IsPath : ℕ → List ℕ → Type 0
IsPath n [] = Unit {0}
IsPath n (q ∷ α) = (q < n) × (on q α ≡ false) × IsPath n α

-- the boards that are not on a path, rising
abbrev pub others : ℕ → List ℕ → List ℕ
others n α = filter (λ q. not (on q α)) (range_with_len 0 n)

-- the paths of one length, in rising order
abbrev pub level : ℕ → ℕ → List (List ℕ)
level n zero = [] ∷ []
level n (suc r) = flat_map (λ α. map (λ q. q ∷ α) (others n α)) (level n r)

-- how many boards on a path are below q
abbrev pub lower : ℕ → List ℕ → ℕ
lower q α = count_by (λ a. nat_lt a q) α

-- the place of a path within its level
abbrev pub rank : ℕ → List ℕ → ℕ
rank n [] = 0
rank n (q ∷ α) = rank n α * (n - length α) + (q - lower q α)

-- how many paths have a length
abbrev pub paths_of : ℕ → ℕ → ℕ
paths_of n zero = 1
paths_of n (suc k) = paths_of n k * (n - k)

-- where the level of a length begins, length 1 at place 0
abbrev pub start : ℕ → ℕ → ℕ
start n zero = 0
start n (suc zero) = 0
start n (suc (suc k)) = start n (suc k) + paths_of n (suc k)

-- the place of a path in a board's tree
abbrev pub place : ℕ → List ℕ → ℕ
place n α = start n (length α) + rank n α

-- the slots of one board's tree, for paths of one to t + 1 boards
abbrev pub tree_size : ℕ → ℕ → ℕ
tree_size n t = start n (t + 2)

-- what every board's tree holds, by board and path; at the empty path, what the board itself sends
abbrev pub Trees : Type 0 → Type 0
Trees I = ℕ → List ℕ → Option I

abbrev pub same_path : List ℕ → List ℕ → Bool
same_path [] [] = true
same_path [] (b ∷ β) = false
same_path (a ∷ α) [] = false
same_path (a ∷ α) (b ∷ β) = a == b && same_path α β

abbrev pub put : {I : Type 0} → Trees I → ℕ → List ℕ → Option I → Trees I
put T p α v = λ p' α'. cond (p' == p && same_path α' α) v (T p' α')

abbrev pub own : {I : Type 0} → List (Option I) → Trees I
own s p [] = slice_index_or s p None
own s p (a ∷ α) = None

-- one carry of a round: what `from` holds at `path` goes to `to`, which stores the answer at the path with `from` added
pub record Hop : Type 0 where
  pub path : List ℕ
  pub from : ℕ
  pub to : ℕ

-- the carries of the round that fills the paths of r + 1 boards: by path, then sender, then receiver
abbrev pub hops : ℕ → ℕ → List Hop
hops n r = flat_map (λ α. flat_map (λ q. map (λ p. record { path = α; from = q; to = p }) (range_with_len 0 n)) (others n α)) (level n r)

-- a backplane with the trees filled so far
pub record Run (I : Type 0) : Type 0 where
  pub plane : Plane I
  pub trees : Trees I

abbrev pub hop : {I : Type 0} → Run I → Hop → Run I
hop w h = record {
  plane = after w.plane (carry h.from h.to (w.trees h.from h.path));
  trees = put w.trees h.to (h.from ∷ h.path) (w.plane.answer [] h.from h.to (w.trees h.from h.path));
}

-- one round: a turn, then its carries
abbrev pub fill_round : {I : Type 0} → ℕ → Run I → ℕ → Run I
fill_round n w r = fold hop (record { plane = after w.plane turn; trees = w.trees }) (hops n r)

-- the first k rounds
abbrev pub fill : {I : Type 0} → ℕ → ℕ → Run I → Run I
fill n zero w = w
fill n (suc k) w = fill_round n (fill n k w) k

-- k rounds in which n boards send s first
abbrev pub filled : {I : Type 0} → ℕ → ℕ → Plane I → List (Option I) → Run I
filled n k b s = fill n k (record { plane = b; trees = own s })

-- whether a slot holds an item
abbrev pub holds : {I : Type 0} → (I → I → Bool) → I → Option I → Bool
holds same x None = false
holds same x (Some y) = same x y

-- the first item of the list that is held at least `need` times
abbrev pub picked : {I : Type 0} → (I → I → Bool) → ℕ → List (Option I) → List (Option I) → Option I
picked same need all [] = None
picked same need all (None ∷ l) = picked same need all l
picked same need all (Some x ∷ l) = cond (nat_le need (count_by (holds same x) all)) (Some x) (picked same need all l)

-- what a path of length k gets from its n − k children
abbrev pub reduce : {I : Type 0} → (I → I → Bool) → ℕ → ℕ → ℕ → List (Option I) → Option I
reduce same n t k children = picked same (n - k - t) children children

-- a slot after the reduction, h levels above the leaves
abbrev pub reduced : {I : Type 0} → (I → I → Bool) → ℕ → ℕ → Trees I → ℕ → ℕ → List ℕ → Option I
reduced same n t T zero p α = T p α
reduced same n t T (suc h) p α = reduce same n t (length α) (map (λ q. reduced same n t T h p (q ∷ α)) (others n α))

-- n × n slots, place p × n + q from p and q
abbrev pub grid : {I : Type 0} → ℕ → (ℕ → ℕ → Option I) → List (Option I)
grid n f = map (λ k. f (k / n) (k % n)) (range_with_len 0 (n * n))

-- the paths of a tree, by rising levels
abbrev pub paths : ℕ → ℕ → List (List ℕ)
paths n t = flat_map (λ k. level n k) (range_with_len 1 (t + 1))

-- the n trees by board: leaves as heard, other slots as reduced
abbrev pub workspace : {I : Type 0} → (I → I → Bool) → ℕ → ℕ → Trees I → List (Option I)
workspace same n t T = flat_map (λ p. map (λ α. reduced same n t T (t + 1 - length α) p α) (paths n t)) (range_with_len 0 n)

-- the k rounds after r are clear
abbrev pub all_clear : (ℕ → Bool) → ℕ → ℕ → Bool
all_clear clear r zero = true
all_clear clear r (suc k) = all_clear clear r k && clear (r + suc k)

-- a firm exchange begun now: t + 1 rounds, then each board hears from q its tree's slot of path q
abbrev pub tree_run : {I : Type 0} → (I → I → Bool) → ℕ → Plane I → List (Option I) → Heard I
tree_run same t b s =
    let n = b.boards in
    let w = filled n (t + 1) b s in
    record { plane = w.plane; slots = grid n (λ p q. reduced same n t w.trees t p (q ∷ [])) }

abbrev pub tree_way : {I : Type 0} → (I → I → Bool) → ℕ → Way I
tree_way same t = record {
  faults = t;
  firm_rounds = t + 1;
  workspace = λ n. n * tree_size n t;
  steady = λ n bad clear r. all_clear clear r (t + 1);
  firm_run = tree_run same t;
}

-- the tree exchange over a backplane
abbrev pub tree_meaning : {I : Type 0} → (I → I → Bool) → ℕ → Plane I → Exchange I
tree_meaning same t b = over (tree_way same t) b

-- the same of what the code holds, by what its backplane means
abbrev pub tree_exchange : {I B : Type 0} → (I → I → Bool) → (B → Plane I) → Tree B → Exchange I
tree_exchange same plane x = tree_meaning same x.faults (plane x.plane)

-- over every backplane that keeps its meaning, the tree exchange keeps an exchange's
abbrev pub TreesKeep : Type 0 → Type 0
TreesKeep I = (same : I → I → Bool) → Tells same → (t : ℕ) (b : Plane I) → planes.Keeps b → Keeps (tree_meaning same t b)

-- a path of a tree has one to t + 1 boards
pub record OfTree (n t : ℕ) (α : List ℕ) : Type 0 where
  pub path : IsPath n α
  pub some : 1 ≤ length α
  pub short : length α ≤ t + 1

-- each path of a tree has a place of its own in it
pub record Owns (n t : ℕ) (α β : List ℕ) : Type 0 where
  pub within : place n α < tree_size n t
  pub apart : place n α ≡ place n β → α ≡ β

abbrev pub OwnPlaces : Type 0
OwnPlaces = (n t : ℕ) (α β : List ℕ) → OfTree n t α → OfTree n t β → Owns n t α β
