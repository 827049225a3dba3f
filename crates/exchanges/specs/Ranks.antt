-- The rank of a path is its place in the level of its length.
use Rattle.std.specs.Prelude.{◌≡◌, ℕ, zero, suc, ◌+◌, ◌-◌, ◌*◌, ◌<◌, Bool, true, false, not, List, [], ◌∷◌, ◌++◌, map, length, get_or, count_by, filter, ◌==◌, nat_lt, slice_index, slice_index_or, refl}
use Rattle.std.proofs.Common.{sym, ap, ◌∙◌, inl, inr, arith, zero-mul, suc-mul}
use Rattle.std.specs.List.{range_with_len, flat_map, AllByRecursion}
use Rattle.std.proofs.lemmas.List.{length-append, length-map, get_or_append_left, get_or-append_right, get_or-map}
use Rattle.std.proofs.ByRecursion.{All-weaker, All-append, All-map}
use Rattle.std.proofs.lemmas.Nat.{mul-add-lt}
use Rattle.std.proofs.lemmas.Bool.{cases_Bool, cases_lt, lt-ltb, le-ltb, not_from_false, cond-true, cond-false}
use Rattle.exchanges.specs.Trees.{IsPath, on, others, level, lower, rank, place, paths_of}
use Rattle.exchanges.specs.Counts.{count_yes, count_no, count_same, count_minus, minus, minus_other, not_or, all_counting, all_of, count_all, length_others, all_others}

-- the boards below q that are off a path, and those on it that are below q, are all below q
pub off_below : (q n : ℕ) (α : List ℕ) → IsPath n α → count_by (λ x. not (on x α)) (range_with_len 0 q) + lower q α ≡ q
off_below q n [] h = omega (arith, count_all (λ x. not (on x [])) (range_with_len 0 q) (all_of _ (λ x. refl) (range_with_len 0 q)), Rattle.std.proofs.lemmas.List.FromFn.length-range_with_len 0 q)
off_below q n (a ∷ α) h =
    let off : ℕ → Bool = λ x. not (on x α) in
    let ih = off_below q n α h.2 in
    let same = count_same (minus off a) (λ x. not (on x (a ∷ α))) (range_with_len 0 q) (all_of _ (λ x. not_or (x == a) (on x α)) (range_with_len 0 q)) in
    elim (cases_lt a q) [ inl l ↦ omega (arith, count_minus off a 0 q (not_from_false (on a α) h.1) (omega arith) (omega arith), count_yes (λ x. nat_lt x q) a α (lt-ltb a q l)) | inr g ↦ omega (arith, count_same off (minus off a) (range_with_len 0 q) (all_counting (λ x. off x ≡ minus off a x) 0 q (λ x u v. minus_other off a x (λ z. omega arith))), count_no (λ x. nat_lt x q) a α (le-ltb a q g)) ]

-- where a number that is kept stands among those kept
kept_at : (f : ℕ → Bool) (q a k n d : ℕ) → a + k ≡ q → k < n → f q ≡ true → (slice_index_or (filter f (range_with_len a n)) (count_by f (range_with_len a k)) d ≡ q) × (count_by f (range_with_len a k) < length (filter f (range_with_len a n)))
kept_at f q a k zero d e l t = absurd (omega arith)
kept_at f q a zero (suc n) d e l t =
    let ft : f a ≡ true = ap f (omega arith) ∙ t in
    let is = cond-true (f a) (a ∷ filter f (range_with_len (a + 1) n)) (filter f (range_with_len (a + 1) n)) ft in
    (ap (λ (xs : List ℕ). get_or xs 0 d) is ∙ omega arith, omega (arith, ap length is))
kept_at f q a (suc k) (suc n) d e l t =
    let ih = kept_at f q (a + 1) k n d (omega arith) (omega arith) t in
    let rest = filter f (range_with_len (a + 1) n) in
    elim (cases_Bool (f a)) [ inl y ↦ (let is = cond-true (f a) (a ∷ rest) rest y in let more : count_by f (range_with_len a (suc k)) ≡ suc (count_by f (range_with_len (a + 1) k)) = omega (arith, count_yes f a (range_with_len (a + 1) k) y) in (ap (λ (xs : List ℕ). get_or xs (count_by f (range_with_len a (suc k))) d) is ∙ ap (λ (i : ℕ). get_or (a ∷ rest) i d) more ∙ ih.0, omega (arith, ap length is))) | inr y ↦ (let is = cond-false (f a) (a ∷ rest) rest y in let more = count_no f a (range_with_len (a + 1) k) y in (ap (λ (xs : List ℕ). get_or xs (count_by f (range_with_len a (suc k))) d) is ∙ ap (λ (i : ℕ). get_or rest i d) more ∙ ih.0, omega (arith, ap length is))) ]

-- where a board off a path stands among those off it
pub other_at : (n q : ℕ) (α : List ℕ) → IsPath n (q ∷ α) → (slice_index (others n α) (q - lower q α) ≡ q) × (q - lower q α < n - length α)
other_at n q α h =
    let f : ℕ → Bool = λ x. not (on x α) in
    let (at, below) = kept_at f q 0 q n 0 (omega arith) h.0 (not_from_false (on q α) h.1) in
    let is : count_by f (range_with_len 0 q) ≡ q - lower q α = omega (arith, off_below q n α h.2) in
    (ap (λ (i : ℕ). slice_index (others n α) i) (sym is) ∙ at, omega (arith, length_others n α h.2))

-- a list of parts that are all as long
module _ {X Y : Type 0} (f : Y → List X) (w : ℕ) where
  joined_length : (ys : List Y) → AllByRecursion (λ y. length (f y) ≡ w) ys → length (flat_map f ys) ≡ length ys * w
  joined_length [] a = sym (zero-mul w)
  joined_length (y ∷ ys) a = omega (arith, length-append (f y) (flat_map f ys), a.0, joined_length ys a.1, suc-mul (length ys) w)

  joined_at : (ys : List Y) (i j : ℕ) (d : X) (e : Y) → AllByRecursion (λ y. length (f y) ≡ w) ys → i < length ys → j < w → slice_index_or (flat_map f ys) (i * w + j) d ≡ slice_index_or (f (slice_index_or ys i e)) j d
  joined_at [] i j d e a li lj = absurd (omega arith)
  joined_at (y ∷ ys) zero j d e a li lj =
      let at : 0 * w + j ≡ j = omega (arith, zero-mul w) in
      ap (λ (k : ℕ). get_or (f y ++ flat_map f ys) k d) at ∙ get_or_append_left (f y) (flat_map f ys) d j (omega (arith, a.0))
  joined_at (y ∷ ys) (suc i) j d e a li lj =
      let at : suc i * w + j - w ≡ i * w + j = omega (arith, suc-mul i w) in
      get_or-append_right (f y) (flat_map f ys) w (suc i * w + j) d a.0 (omega (arith, suc-mul i w)) ∙ ap (λ (k : ℕ). get_or (flat_map f ys) k d) at ∙ joined_at ys i j d e a.1 (omega arith) lj

pub all_joined_at : {X Y : Type 0} (P : X → Type 0) (f : Y → List X) (ys : List Y) → AllByRecursion (λ y. AllByRecursion P (f y)) ys → AllByRecursion P (flat_map f ys)
all_joined_at P f [] h = tt
all_joined_at P f (y ∷ ys) h = All-append P (f y) (flat_map f ys) h.0 (all_joined_at P f ys h.1)

pub all_paths : (n k : ℕ) → AllByRecursion (λ α. IsPath n α × (length α ≡ k)) (level n k)
all_paths n zero = ((tt, refl), tt)
all_paths n (suc k) =
    let P : List ℕ → Type 0 = λ α. IsPath n α × (length α ≡ suc k) in
    all_joined_at P (λ α. map (λ q. q ∷ α) (others n α)) (level n k) (All-weaker (λ α. IsPath n α × (length α ≡ k)) _ (λ α h. All-map P (λ q. q ∷ α) (others n α) (All-weaker (λ q. (q < n) × (on q α ≡ false)) _ (λ q g. ((g.0, g.1, h.0), ap suc h.1)) (others n α) (all_others n α))) (level n k) (all_paths n k))

-- each path of a level has as many children as boards are off it
widths : (n k : ℕ) → AllByRecursion (λ α. length (map (λ q. q ∷ α) (others n α)) ≡ n - k) (level n k)
widths n k = All-weaker (λ α. IsPath n α × (length α ≡ k)) _ (λ α h. omega (arith, length-map (others n α) (λ q. q ∷ α), length_others n α h.0, h.1)) (level n k) (all_paths n k)

pub length_level : (n k : ℕ) → length (level n k) ≡ paths_of n k
length_level n zero = refl
length_level n (suc k) = joined_length (λ α. map (λ q. q ∷ α) (others n α)) (n - k) (level n k) (widths n k) ∙ ap (λ (m : ℕ). m * (n - k)) (length_level n k)

pub rank_below : (n : ℕ) (α : List ℕ) → IsPath n α → rank n α < paths_of n (length α)
rank_below n [] h = omega arith
rank_below n (q ∷ α) h = omega (arith, mul-add-lt (rank n α) (n - length α) (q - lower q α) (paths_of n (length α)) (rank_below n α h.2) (other_at n q α h).1)

pub rank_at : (n : ℕ) (α : List ℕ) → IsPath n α → slice_index_or (level n (length α)) (rank n α) [] ≡ α
rank_at n [] h = refl
rank_at n (q ∷ α) h =
    let k = length α in
    let f : List ℕ → List (List ℕ) = λ β. map (λ x. x ∷ β) (others n β) in
    let (at, below) = other_at n q α h in
    joined_at f (n - k) (level n k) (rank n α) (q - lower q α) [] [] (widths n k) (omega (arith, length_level n k, rank_below n α h.2)) below
    ∙ ap (λ (β : List ℕ). get_or (f β) (q - lower q α) []) (rank_at n α h.2)
    ∙ get_or-map (λ x. x ∷ α) (others n α) (q - lower q α) 0 [] (omega (arith, length_others n α h.2))
    ∙ ap (λ (x : ℕ). x ∷ α) at

-- paths of one length with the same rank are the same
pub rank_once : (n : ℕ) (α β : List ℕ) → IsPath n α → IsPath n β → length α ≡ length β → rank n α ≡ rank n β → α ≡ β
rank_once n α β h g l r = sym (rank_at n α h) ∙ ap (λ (k : ℕ). get_or (level n k) (rank n α) []) l ∙ ap (λ (i : ℕ). get_or (level n (length β)) i []) r ∙ rank_at n β g

pub place_single : (n q : ℕ) → place n (q ∷ []) ≡ q
place_single n q = omega (arith, zero-mul (n - 0))
