-- Where the slots stand, and one carry more.
use Rattle.std.proofs.lemmas.Grind.{common_steps}
use Rattle.std.proofs.Common.{◌≡◌, ℕ, zero, suc, ◌+◌, ◌-◌, ◌*◌, ◌<◌, ◌≤◌, ◌≢◌, List, [], ◌∷◌, length, get_or, set, None, fold, Option, sym, refl, ap, ◌∙◌, subst, add-one, arith}
use Rattle.std.proofs.lemmas.Nat.{mul-add-lt}
use Rattle.std.proofs.lemmas.List.{get_or-set_same, get_or-set_other}
use Rattle.std.proofs.lemmas.List.Sums.{fold_push}
use Rattle.std.proofs.lemmas.List.FromFn.{map-range_with_len_more}
use Rattle.exchanges.specs.declared.path.Path.{Path}
use Rattle.exchanges.specs.declared.path.Shape.{Shape}
use Rattle.exchanges.specs.Boards.{most_boards}
use Rattle.exchanges.specs.Plane.{Plane, carry, after}
use Rattle.exchanges.specs.Trees.{IsPath, Hop, place, start, tree_size}
use Rattle.exchanges.specs.Slots.{trail, slot, held, Work, carried, hops_from, Worked}
use Rattle.exchanges.specs.Ranks.{rank_below}
use Rattle.exchanges.proofs.Trail.{length_trail}

pub start_up : (n k : ℕ) → start n k ≤ start n (suc k)
start_up n zero = omega arith
start_up n (suc k) = omega arith

pub start_mono : (n k j : ℕ) → start n k ≤ start n (k + j)
start_mono n k zero = let e : k ≡ k + 0 = omega arith in omega (arith, ap (start n) e)
start_mono n k (suc j) = let e : suc (k + j) ≡ k + suc j = omega arith in omega (arith, start_mono n k j, start_up n (k + j), ap (start n) e)

pub place_below : (n t : ℕ) (α : List ℕ) → IsPath n α → 1 ≤ length α → length α ≤ t + 1 → place n α < tree_size n t
place_below n t [] path one l = absurd (omega arith)
place_below n t (q ∷ α) path one l =
    let e : suc (suc (length α)) + (t - length α) ≡ t + 2 = omega arith in
    omega (arith, rank_below n (q ∷ α) path, start_mono n (suc (suc (length α))) (t - length α), ap (start n) e)

pub slot_below : (n t size p : ℕ) (α : List ℕ) → size ≡ tree_size n t → p < n → IsPath n α → 1 ≤ length α → length α ≤ t + 1 → slot n size p α < n * size
slot_below n t size p α e lp path one l = omega (arith, mul-add-lt p size (place n α) n lp (omega (arith, place_below n t α path one l)), native.Mathlib.Nat.mul_comm n size)

-- writes behind the first entries leave their path
trail_kept : (bs : List ℕ) (k j q : ℕ) → j ≤ k → trail (set bs k q) j ≡ trail bs j
trail_kept bs k zero q l = refl
trail_kept bs k (suc j) q l = let ne : j ≢ k = omega arith in cc (get_or-set_other bs k j q 0 ne, trail_kept bs k j q (omega arith))

pub trail_add : (bs : List ℕ) (k q : ℕ) → k < length bs → trail (set bs k q) (k + 1) ≡ q ∷ trail bs k
trail_add bs k q l = ap (trail (set bs k q)) (add-one k) ∙ cc (get_or-set_same bs k q 0 l, trail_kept bs k k q (omega arith))

module _ {I : Type 0} (n size : ℕ) (own : List (Option I)) where
  pub work_step : (w : Work I) (h : Hop) (b b' : Plane I) (ws : List (Option I)) (item r : Option I) (at : ℕ) → Worked b ws w → item ≡ held n size own ws h.from h.path → r ≡ b.answer [] h.from h.to item → b' ≡ after b (carry h.from h.to item) → at ≡ slot n size h.to (h.from ∷ h.path) → Worked b' (set ws at r) (carried n size own w h)
  work_step w h b b' ws item r at k i a f s = grind (arith, common_steps)

  abbrev one : List ℕ → ℕ → ℕ → Hop
  one α q p = record { path = α; from = q; to = p }

  pub sent_more : (w : Work I) (α : List ℕ) (q p : ℕ) → fold (carried n size own) w (hops_from (p + 1) α q) ≡ carried n size own (fold (carried n size own) w (hops_from p α q)) (one α q p)
  sent_more w α q p = ap (fold (carried n size own) w) (map-range_with_len_more (one α q) 0 p p (omega arith)) ∙ fold_push (carried n size own) w (hops_from p α q) (one α q p)

pub held_at : {I : Type 0} (n size : ℕ) (own ws : List (Option I)) (q : ℕ) (α : List ℕ) → 1 ≤ length α → held n size own ws q α ≡ get_or ws (slot n size q α) None
held_at n size own ws q [] l = absurd (omega arith)
held_at n size own ws q (a ∷ α) l = refl

pub all_small : (n t : ℕ) → n ≤ most_boards → 3 * t < n → n * tree_size n t ≤ 1813
all_small n t ln lt = grind (arith, common_steps)

-- the place of a path's slot is below the length, and small
pub slot_in : (path : Path) (slots p at : ℕ) → path.shape.n * path.shape.size ≤ slots → p < path.shape.n → 1 ≤ path.len → at ≡ place path.shape.n (trail path.boards path.len) → (p * path.shape.size + at < slots) × (p * path.shape.size + at < 1813)
slot_in path slots p at holds lp some e =
    let n = path.shape.n in
    let t = path.shape.t in
    let size = path.shape.size in
    let long = length_trail path.boards path.len in
    let below = slot_below n t size p (trail path.boards path.len) path.shape.sized lp path.differ (omega (arith, long)) (omega (arith, long, path.short)) in
    let small = all_small n t path.shape.few path.shape.fewer in
    let same = ap (λ (x : ℕ). n * x) path.shape.sized in
    (omega arith, omega arith)

-- slots that hold the trees of one shape hold those of the same shape
pub room_alike : (a b : Shape) (slots : ℕ) → a ≡ b → b.n * b.size ≤ slots → a.n * a.size ≤ slots
room_alike a b slots e h = subst (λ (s : Shape). s.n * s.size ≤ slots) (sym e) h
