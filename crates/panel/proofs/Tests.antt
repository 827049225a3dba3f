-- What calls of a test tell, and counts by place of what a list holds.
use Rattle.std.proofs.Common.{◌≡◌, ℕ, zero, suc, ◌+◌, ◌-◌, ◌<◌, ◌≤◌, Bool, true, false, cond, ◌&&◌, eqb, leb, List, length, get_or, take, length-take, ◌⊎◌, inl, inr, is_some, Some, None, MatchOption, Bor, sym, refl, ap, ◌∙◌, add-one, zero-add, arith}
use Rattle.std.specs.List.{count_by, range_with_len}
use Rattle.std.specs.Option.{option_or}
use Rattle.std.specs.Bool.{then_some}
use Rattle.std.proofs.lemmas.List.{take_all, get_or_past}
use Rattle.std.proofs.lemmas.Bool.{cases_lt, lt-leb, le-leb}
use Rattle.std.proofs.lemmas.List.FromFn.{length-range_with_len, get_or-range_with_len}
use Rattle.std.proofs.lemmas.List.Sums.{count_by_more_yes, count_by_more_no}
use Rattle.labels.specs.declared.slip.Slip.{Slip}
use Rattle.exchanges.specs.Boards.{count}
use Rattle.panel.specs.Slots.{Comparison, Slot, has_label, is_slip, label_of}
use Rattle.panel.specs.Phase.{Row, ahead, better, best, only, wins_often, times, most_often, unphased, standing, fallback, choice_of, later, heard_enough, best_heard}
use Rattle.panel.specs.Votes.{row_of, Counts, Beats}
use Rattle.panel.proofs.Counts.{count_same}
use Rattle.panel.proofs.Rows.{best_same}

pub told : {L : Type 0} (answers : Slip L → Bool → Type 0) (T : Slot L → Bool) (x : Slot L) (b : Bool) → Counts answers T → MatchOption x (b ≡ false) (λ s. answers s b) → b ≡ T x
told answers T None b h k = k ∙ sym h.0
told answers T (Some s) b h k = h.1 s b k

-- a count along a list is a count of its places
count_taken : {X : Type 0} (p : X → Bool) (xs : List X) (d : X) (i : ℕ) → i ≤ length xs → count_by p (take i xs) ≡ count (λ q. p (get_or xs q d)) i
count_taken p xs d zero h = refl
count_taken p xs d (suc i) h = ap (λ k. count_by p (take k xs)) (sym (add-one i)) ∙ go (p (get_or xs i d)) refl (count_taken p xs d i (omega arith))
  where
    go : (b : Bool) → p (get_or xs i d) ≡ b → count_by p (take i xs) ≡ count (λ q. p (get_or xs q d)) i → count_by p (take (i + 1) xs) ≡ cond b 1 0 + count (λ q. p (get_or xs q d)) i
    go true e ih = let k = count_by_more_yes p xs i d (omega arith) e in omega arith
    go false e ih = let k = count_by_more_no p xs i d (omega arith) e in omega arith

pub count_along : {X : Type 0} (p : X → Bool) (xs : List X) (d : X) → count_by p xs ≡ count (λ q. p (get_or xs q d)) (length xs)
count_along p xs d = ap (count_by p) (sym (take_all (length xs) xs (omega arith))) ∙ count_taken p xs d (length xs) (omega arith)

pub count_range : (P : ℕ → Bool) (n : ℕ) → count_by P (range_with_len 0 n) ≡ count P n
count_range P n =
    count_along P (range_with_len 0 n) 0
    ∙ (ap (count (λ q. P (get_or (range_with_len 0 n) q 0))) (length-range_with_len 0 n)
    ∙ count_same _ P n (λ q l. ap P (get_or-range_with_len 0 n q 0 l ∙ zero-add q)))

-- a slot that is kept where it passes a test
pub only_told : {L : Type 0} (calls : Bor (Slip L) → Bool → Type 0) (P : Slip L → Bool) (x y : Slot L) → ((p : Bor (Slip L)) (b : Bool) → calls p b → b ≡ P p.now) → MatchOption x (y ≡ None) (λ s. (b : Bool) × ((p : Bor (Slip L)) × calls p b × (p.now ≡ s)) × (y ≡ then_some b s)) → y ≡ only P x
only_told calls P None y h k = k
only_told calls P (Some s) y h k = k.2 ∙ go k.0 (h k.1.0 k.0 k.1.1 ∙ ap P k.1.2)
  where
    go : (b : Bool) → b ≡ P s → then_some b s ≡ cond (P s) (Some s) None
    go true e = ap (λ u. cond u (Some s) None) e
    go false e = ap (λ u. cond u (Some s) None) e

-- a slot that is kept where it beats another, and otherwise the other
pub better_told : {L : Type 0} (calls : Bor (Slip L) → Bool → Type 0) (R : Slip L → Slip L → Bool) (x top y : Slot L) → ((p : Bor (Slip L)) (b : Bool) → calls p b → MatchOption top (b ≡ true) (λ t. b ≡ R p.now t)) → MatchOption x (y ≡ None) (λ s. (b : Bool) × ((p : Bor (Slip L)) × calls p b × (p.now ≡ s)) × (y ≡ then_some b s)) → option_or y top ≡ better R x top
better_told calls R None top y h k = ap (λ u. option_or u top) k
better_told calls R (Some s) None y h k = ap (λ u. option_or u None) (k.2 ∙ ap (λ b. then_some b s) (h k.1.0 k.0 k.1.1))
better_told calls R (Some s) (Some r) y h k = ap (λ u. option_or u (Some r)) k.2 ∙ go k.0 (h k.1.0 k.0 k.1.1 ∙ ap (λ u. R u r) k.1.2)
  where
    go : (b : Bool) → b ≡ R s r → option_or (then_some b s) (Some r) ≡ cond (R s r) (Some s) (Some r)
    go true e = ap (λ u. cond u (Some s) (Some r)) e
    go false e = ap (λ u. cond u (Some s) (Some r)) e

-- what beats the slip of a slot; silence is beaten by each
pub beats_told : {L : Type 0} (answers : Slip L → Slip L → Bool → Type 0) (R : Slip L → Slip L → Bool) (s : Slip L) (top : Slot L) (b : Bool) → Beats answers R → MatchOption top (b ≡ true) (λ t. answers s t b) → MatchOption top (b ≡ true) (λ t. b ≡ R s t)
beats_told answers R s None b h k = k
beats_told answers R s (Some t) b h k = h s t b k

-- where each slip passes, the best is that of the whole row
pub best_each : {L : Type 0} (R : Slip L → Slip L → Bool) (row : Row L) (n : ℕ) → best R (λ q. only (λ s. true) (row q)) n ≡ best R row n
best_each {L} R row n = best_same R R _ row n (λ s r. refl) (λ q l. each (row q))
  where
    each : (x : Slot L) → only (λ s. true) x ≡ x
    each None = refl
    each (Some s) = refl

-- places past the end hold silence, which adds nothing
count_past : (P : ℕ → Bool) (k n : ℕ) → k ≤ n → ((q : ℕ) → k ≤ q → P q ≡ false) → count P k ≡ count P n
count_past P k zero l h = ap (count P) (let e : k ≡ 0 = omega arith in e)
count_past P k (suc n) l h = go (cases_lt n k) (λ m. count_past P k n m h)
  where
    go : (n < k) ⊎ (k ≤ n) → (k ≤ n → count P k ≡ count P n) → count P k ≡ count P (suc n)
    go (inl m) ih = ap (count P) (let e : k ≡ suc n = omega arith in e)
    go (inr m) ih = let e = ap (λ b. cond {A = ℕ} b 1 0) (h n m) in let i = ih m in omega arith

best_past : {L : Type 0} (R : Slip L → Slip L → Bool) (row : Row L) (k n : ℕ) → k ≤ n → ((q : ℕ) → k ≤ q → row q ≡ None) → best R row k ≡ best R row n
best_past R row k zero l h = ap (best R row) (let e : k ≡ 0 = omega arith in e)
best_past R row k (suc n) l h = go (cases_lt n k) (λ m. best_past R row k n m h)
  where
    go : (n < k) ⊎ (k ≤ n) → (k ≤ n → best R row k ≡ best R row n) → best R row k ≡ best R row (suc n)
    go (inl m) ih = ap (best R row) (let e : k ≡ suc n = omega arith in e)
    go (inr m) ih = ih m ∙ ap (λ x. better R x (best R row n)) (sym (h n m))

-- what lies in a part of the memory, as a row of n places
module _ {L : Type 0} (n : ℕ) (xs l : List (Slot L)) (is : l ≡ take n xs) where
  few : length l ≤ n
  few = let e = ap length is in omega (arith, length-take n xs, e)

  pub count_part : (T : Slot L → Bool) → T None ≡ false → count (λ q. T (row_of l q)) (length l) ≡ count (λ q. T (row_of (take n xs) q)) n
  count_part T h = count_past (λ q. T (row_of l q)) (length l) n few (λ q m. ap T (get_or_past l q None m) ∙ h) ∙ ap (λ u. count (λ q. T (row_of u q)) n) is

  pub best_part : (R : Slip L → Slip L → Bool) (P : Slip L → Bool) → best R (λ q. only P (row_of l q)) (length l) ≡ best R (λ q. only P (row_of (take n xs) q)) n
  best_part R P = best_past R (λ q. only P (row_of l q)) (length l) n few (λ q m. ap (only P) (get_or_past l q None m)) ∙ ap (λ u. best R (λ q. only P (row_of u q)) n) is

  pub most_part : (o : Comparison L) → most_often o (length l) (row_of l) ≡ most_often o n (row_of (take n xs))
  most_part o =
      let e : times o (length l) (row_of l) ≡ times o n (row_of l) = λ i v. count_past (λ q. has_label o v (row_of l q)) (length l) n few (λ q m. ap (has_label o v) (get_or_past l q None m)) i in
      ap (λ m. best (ahead (wins_often o) (λ s. m s.label)) (row_of l) (length l)) e
      ∙ (best_past _ (row_of l) (length l) n few (λ q m. get_or_past l q None m)
      ∙ ap (λ u. most_often o n (row_of u)) is)

  pub often_part : (o : Comparison L) (k f : ℕ) → best_heard o (length l) k f (row_of l) ≡ best_heard o n k f (row_of (take n xs))
  often_part o k f =
      let e : (λ s. heard_enough o (length l) k f (row_of l) s) ≡ heard_enough o n k f (row_of l) = λ i s. eqb s.phase f && leb k (count_past (λ q. is_slip o s.label f (row_of l q)) (length l) n few (λ q m. ap (is_slip o s.label f) (get_or_past l q None m)) i) in
      ap (λ P. best (later o) (λ q. only P (row_of l q)) (length l)) e
      ∙ (best_past (later o) (λ q. only (heard_enough o n k f (row_of l)) (row_of l q)) (length l) n few (λ q m. ap (only (heard_enough o n k f (row_of l))) (get_or_past l q None m))
      ∙ ap (λ u. best_heard o n k f (row_of u)) is)

-- the choice where no claim stands
module _ {L : Type 0} (o : Comparison L) (n t : ℕ) (claims : Row L) (picks : ℕ → Row L) (none : standing o n t claims picks ≡ None) where
  no_standing : choice_of o n t claims picks ≡ label_of (fallback o n t claims)
  no_standing = ap (λ S. label_of (cond (is_some S) S (fallback o n t claims))) none

  pub choice_none : count (λ q. unphased (claims q)) n < n - t → choice_of o n t claims picks ≡ None
  choice_none h = no_standing ∙ ap (λ b. label_of (cond b (most_often o n claims) None)) (lt-leb _ _ h)

  pub choice_most : n - t ≤ count (λ q. unphased (claims q)) n → choice_of o n t claims picks ≡ label_of (most_often o n claims)
  choice_most h = no_standing ∙ ap (λ b. label_of (cond b (most_often o n claims) None)) (le-leb _ _ h)
