-- Counting boards: those of a list that pass a test, those on a path, those left over.
use Rattle.std.proofs.lemmas.Grind.{common_steps}
use Rattle.std.specs.Prelude.{◌≡◌, ℕ, zero, suc, ◌+◌, ◌<◌, ◌≤◌, Bool, true, false, cond, not, ◌&&◌, ◌||◌, List, [], ◌∷◌, map, length, count_by, filter, ◌==◌, ◌≢◌, refl}
use Rattle.std.proofs.Common.{sym, ap, ◌∙◌, inl, inr, arith, add-one}
use Rattle.std.specs.List.{range_with_len, AllByRecursion}
use Rattle.std.proofs.lemmas.List.Sums.{length-filter}
use Rattle.std.proofs.lemmas.List.Filters.{length-filter_both, sum_by-filter_both}
use Rattle.std.proofs.lemmas.List.FromFn.{length-range_with_len, sum_by-map-range_with_len_more}
use Rattle.std.proofs.lemmas.List.{map-id}
use Rattle.std.proofs.lemmas.Bool.{cases_Bool, cases_eq, eq-eqb, ne_eqb, eqb-false, or_parts, not_from_false, not-true, cond_both}
use Rattle.std.proofs.ByRecursion.{All-weaker}
use Rattle.exchanges.specs.Boards.{count}
use Rattle.exchanges.specs.Trees.{on, others, IsPath}

module _ {X : Type 0} where
  pub count_yes : (p : X → Bool) (x : X) (xs : List X) → p x ≡ true → count_by p (x ∷ xs) ≡ 1 + count_by p xs
  count_yes p x xs e = grind (arith, common_steps)

  pub count_no : (p : X → Bool) (x : X) (xs : List X) → p x ≡ false → count_by p (x ∷ xs) ≡ count_by p xs
  count_no p x xs e = grind (arith, common_steps)

  -- a test that passes wherever another does counts no less
  pub count_le : (p q : X → Bool) (xs : List X) → AllByRecursion (λ x. p x ≡ true → q x ≡ true) xs → count_by p xs ≤ count_by q xs
  count_le p q [] h = omega arith
  count_le p q (x ∷ xs) h = elim (cases_Bool (p x)) [ inl e ↦ omega (arith, count_yes p x xs e, count_yes q x xs (h.0 e), count_le p q xs h.1) | inr e ↦ elim (cases_Bool (q x)) [ inl d ↦ omega (arith, count_no p x xs e, count_yes q x xs d, count_le p q xs h.1) | inr d ↦ omega (arith, count_no p x xs e, count_no q x xs d, count_le p q xs h.1) ] ]

  pub count_same : (p q : X → Bool) (xs : List X) → AllByRecursion (λ x. p x ≡ q x) xs → count_by p xs ≡ count_by q xs
  count_same p q [] h = refl
  count_same p q (x ∷ xs) h = elim (cases_Bool (p x)) [ inl e ↦ omega (arith, count_yes p x xs e, count_yes q x xs (sym h.0 ∙ e), count_same p q xs h.1) | inr e ↦ omega (arith, count_no p x xs e, count_no q x xs (sym h.0 ∙ e), count_same p q xs h.1) ]

  pub count_all : (p : X → Bool) (xs : List X) → AllByRecursion (λ x. p x ≡ true) xs → count_by p xs ≡ length xs
  count_all p [] h = refl
  count_all p (x ∷ xs) h = omega (arith, count_yes p x xs h.0, count_all p xs h.1)

  pub count_not : (p : X → Bool) (xs : List X) → count_by p xs + count_by (λ x. not (p x)) xs ≡ length xs
  count_not p xs = omega (arith, length-filter_both p (λ x. not (p x)) (λ x. refl) xs, length-filter p xs, length-filter (λ x. not (p x)) xs)

  pub count_kept : (p f : X → Bool) (xs : List X) → count_by p (filter f xs) ≤ count_by p xs
  count_kept p f xs = omega (arith, sum_by-filter_both f (λ x. not (f x)) (λ x. refl) (λ x. cond (p x) 1 0) xs)

  pub all_kept : (P : X → Type 0) (f : X → Bool) (xs : List X) → AllByRecursion P xs → AllByRecursion (λ x. P x × (f x ≡ true)) (filter f xs)
  all_kept P f [] h = tt
  all_kept P f (x ∷ xs) h =
      let ih = all_kept P f xs h.1 in
      cond_both (f x) (x ∷ filter f xs) (filter f xs) (λ l. AllByRecursion (λ y. P y × (f y ≡ true)) l) (λ e. ((h.0, e), ih)) (λ e. ih)

  pub all_both : (P Q R : X → Type 0) → ((x : X) → P x → Q x → R x) → (xs : List X) → AllByRecursion P xs → AllByRecursion Q xs → AllByRecursion R xs
  all_both P Q R f [] g h = tt
  all_both P Q R f (x ∷ xs) g h = (f x g.0 h.0, all_both P Q R f xs g.1 h.1)

  pub all_of : (P : X → Type 0) → ((x : X) → P x) → (xs : List X) → AllByRecursion P xs
  all_of P f [] = tt
  all_of P f (x ∷ xs) = (f x, all_of P f xs)

  pub map_same : {Y : Type 0} (v w : X → Y) (xs : List X) → AllByRecursion (λ x. v x ≡ w x) xs → map v xs ≡ map w xs
  map_same v w [] h = refl
  map_same v w (x ∷ xs) h = cc (h.0, map_same v w xs h.1)

  -- two tests that together count more than there are pass somewhere at once
  pub meet : (f g : X → Bool) (P : X → Type 0) (xs : List X) → AllByRecursion P xs → length xs < count_by f xs + count_by g xs → (x : X) × P x × (f x ≡ true) × (g x ≡ true)
  meet f g P [] h l = absurd (omega arith)
  meet f g P (x ∷ xs) h l =
      elim (cases_Bool (f x)) [ inl e ↦ elim (cases_Bool (g x)) [ inl d ↦ (x, h.0, e, d) | inr d ↦ meet f g P xs h.1 (omega (arith, count_yes f x xs e, count_no g x xs d)) ] | inr e ↦ meet f g P xs h.1 (elim (cases_Bool (g x)) [ inl d ↦ omega (arith, count_no f x xs e, count_yes g x xs d) | inr d ↦ omega (arith, count_no f x xs e, count_no g x xs d) ]) ]

pub count_map : {X Y : Type 0} (p : Y → Bool) (v : X → Y) (xs : List X) → count_by p (map v xs) ≡ count_by (λ x. p (v x)) xs
count_map p v [] = refl
count_map p v (x ∷ xs) = elim (cases_Bool (p (v x))) [ inl e ↦ omega (arith, count_yes p (v x) (map v xs) e, count_yes (λ y. p (v y)) x xs e, count_map p v xs) | inr e ↦ omega (arith, count_no p (v x) (map v xs) e, count_no (λ y. p (v y)) x xs e, count_map p v xs) ]

-- what holds of each number from a on, n of them
pub all_counting : (P : ℕ → Type 0) (a n : ℕ) → ((x : ℕ) → a ≤ x → x < a + n → P x) → AllByRecursion P (range_with_len a n)
all_counting P a zero f = tt
all_counting P a (suc n) f = (f a (omega arith) (omega arith), all_counting P (a + 1) n (λ x g h. f x (omega arith) (omega arith)))

-- a test, but not at q
abbrev pub minus : (ℕ → Bool) → ℕ → ℕ → Bool
minus f q x = not (x == q) && f x

pub minus_other : (f : ℕ → Bool) (q x : ℕ) → (x ≢ q) → f x ≡ minus f q x
minus_other f q x h = ap (λ (b : Bool). not b && f x) (sym (ne_eqb x q h))

pub minus_itself : (f : ℕ → Bool) (q x : ℕ) → x ≡ q → minus f q x ≡ false
minus_itself f q x h = ap (λ (b : Bool). not b && f x) (eq-eqb x q h)

pub count_minus : (f : ℕ → Bool) (q a n : ℕ) → f q ≡ true → a ≤ q → q < a + n → count_by f (range_with_len a n) ≡ 1 + count_by (minus f q) (range_with_len a n)
count_minus f q a zero e g h = absurd (omega arith)
count_minus f q a (suc n) e g h =
    elim (cases_eq a q) [ inl d ↦ (let here = count_yes f a (range_with_len (a + 1) n) (ap f d ∙ e) in let gone = count_no (minus f q) a (range_with_len (a + 1) n) (minus_itself f q a d) in let rest = count_same f (minus f q) (range_with_len (a + 1) n) (all_counting (λ x. f x ≡ minus f q x) (a + 1) n (λ x u v. minus_other f q x (λ z. omega arith))) in omega arith) | inr d ↦ (let ih = count_minus f q (a + 1) n e (omega arith) (omega arith) in let eq = minus_other f q a d in elim (cases_Bool (f a)) [ inl y ↦ omega (arith, count_yes f a (range_with_len (a + 1) n) y, count_yes (minus f q) a (range_with_len (a + 1) n) (sym eq ∙ y)) | inr y ↦ omega (arith, count_no f a (range_with_len (a + 1) n) y, count_no (minus f q) a (range_with_len (a + 1) n) (sym eq ∙ y)) ]) ]

pub not_or : (a b : Bool) → not a && not b ≡ not (a || b)
not_or true b = refl
not_or false b = refl

-- the boards off a path and those on it are all the boards
pub count_off : (n : ℕ) (α : List ℕ) → IsPath n α → count_by (λ q. not (on q α)) (range_with_len 0 n) + length α ≡ n
count_off n [] h =
    let all = count_all (λ q. not (on q [])) (range_with_len 0 n) (all_of _ (λ x. refl) (range_with_len 0 n)) in
    omega (arith, length-range_with_len 0 n)
count_off n (q ∷ α) h =
    let off : ℕ → Bool = λ x. not (on x α) in
    let one = count_minus off q 0 n (not_from_false (on q α) h.1) (omega arith) (omega arith) in
    let same = count_same (minus off q) (λ x. not (on x (q ∷ α))) (range_with_len 0 n) (all_of _ (λ x. not_or (x == q) (on x α)) (range_with_len 0 n)) in
    omega (arith, count_off n α h.2)

pub length_others : (n : ℕ) (α : List ℕ) → IsPath n α → length (others n α) + length α ≡ n
length_others n α h = omega (arith, count_off n α h, length-filter (λ q. not (on q α)) (range_with_len 0 n))

pub all_others : (n : ℕ) (α : List ℕ) → AllByRecursion (λ q. (q < n) × (on q α ≡ false)) (others n α)
all_others n α =
    let P : ℕ → Type 0 = λ q. q < n in
    let f : ℕ → Bool = λ q. not (on q α) in
    let kept = all_kept P f (range_with_len 0 n) (all_counting P 0 n (λ x g h. omega arith)) in
    All-weaker (λ q. P q × (f q ≡ true)) _ (λ q h. (h.0, not-true (on q α) h.1)) (others n α) kept

-- a path off q, and q apart from each board on it
pub off_apart : (q : ℕ) (α : List ℕ) → on q α ≡ false → AllByRecursion (λ a. a ≢ q) α
off_apart q [] h = tt
off_apart q (a ∷ α) h =
    let parts = or_parts (q == a) (on q α) h in
    (λ e. eqb-false q a parts.0 (sym e), off_apart q α parts.1)

-- a path of boards that pass a test is no longer than there are such boards
pub path_short : (bad : ℕ → Bool) (n : ℕ) (α : List ℕ) → IsPath n α → AllByRecursion (λ q. bad q ≡ true) α → length α ≤ count_by bad (range_with_len 0 n)
path_short bad n [] h g = omega arith
path_short bad n (q ∷ α) h g =
    let one = count_minus bad q 0 n g.0 (omega arith) (omega arith) in
    let rest = all_both (λ a. a ≢ q) (λ a. bad a ≡ true) (λ a. minus bad q a ≡ true) (λ a u v. sym (minus_other bad q a u) ∙ v) α (off_apart q α h.1) g.1 in
    omega (arith, path_short (minus bad q) n α h.2 rest)

pub count_last : (f : ℕ → Bool) (a : ℕ) → count_by f (range_with_len 0 (a + 1)) ≡ count_by f (range_with_len 0 a) + cond (f a) 1 0
count_last f a =
    let same : (m : ℕ) → count_by f (range_with_len 0 m) ≡ count_by f (map (λ x. x) (range_with_len 0 m)) = λ m. ap (count_by f) (sym (map-id (range_with_len 0 m))) in
    same (a + 1) ∙ sum_by-map-range_with_len_more (λ x. cond (f x) 1 0) (λ x. x) 0 a a (omega arith) ∙ ap (λ (m : ℕ). m + cond (f a) 1 0) (sym (same a))

-- boards counted from the last, and from the first
pub count_is : (f : ℕ → Bool) (n : ℕ) → count f n ≡ count_by f (range_with_len 0 n)
count_is f zero = refl
count_is f (suc n) = omega (arith, count_is f n, count_last f n, ap (λ (m : ℕ). count_by f (range_with_len 0 m)) (add-one n))
