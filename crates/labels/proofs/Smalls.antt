-- The smallest of the labels seen so far.
use Rattle.std.proofs.Common.{◌≡◌, ℕ, ◌+◌, ◌<◌, ◌≤◌, true, false, ◌⊎◌, List, length, get_or, Ordering, Less, Equal, Greater, sym, refl, ap, ◌∙◌, inl, inr, arith}
use Rattle.std.proofs.lemmas.List.{get_or_read}
use Rattle.std.proofs.lemmas.Bool.{cases_lt, true≢false}
use Rattle.std.specs.Ordering.{is_lt, ordering_reverse}
use Rattle.labels.specs.Order.{Total}

less_from : (o : Ordering) → is_lt o ≡ true → o ≡ Less
less_from Less e = refl
less_from Equal e = absurd (true≢false (sym e))
less_from Greater e = absurd (true≢false (sym e))

module _ {L : Type 0} (order : L → L → Ordering) where
  -- of the first i labels the one at k is the smallest, and the first of those
  pub record Best (xs : List L) (i k : ℕ) : Type 0 where
    pub seen : k < i
    pub before : (j : ℕ) (d : L) → j < k → order (get_or xs k d) (get_or xs j d) ≡ Less
    pub after : (j : ℕ) (d : L) → k < j → j < i → order (get_or xs j d) (get_or xs k d) ≡ Less → ⊥

  pub best_first : (xs : List L) → Best xs 1 0
  best_first xs = record { seen = omega arith; before = λ j d h. absurd (omega arith); after = λ j d h k. absurd (omega arith) }

  module _ (total : Total order) where
    -- below one that is not above
    below_through : (a b c : L) → order a b ≡ Less → (order c b ≡ Less → ⊥) → order a c ≡ Less
    below_through a b c e f = go (order c b) refl
      where
        go : (o : Ordering) → order c b ≡ o → order a c ≡ Less
        go Less k = absurd (f k)
        go Equal k = ap (order a) (total.same c b k) ∙ e
        go Greater k = total.through a b c e (total.turned c b ∙ ap ordering_reverse k)

    -- a smaller one is found at i
    pub best_found : (xs : List L) (i k : ℕ) (x y : L) → Best xs i k → i < length xs → x ≡ get_or xs i x → y ≡ get_or xs k y → is_lt (order x y) ≡ true → Best xs (i + 1) i
    best_found xs i k x y b h ex ey e =
        let seen = b.seen in
        record {
          seen = omega arith;
          before = λ j d l.
              let xi : x ≡ get_or xs i d = get_or_read xs i x h ex d in
              let yk : y ≡ get_or xs k d = get_or_read xs k y (omega arith) ey d in
              let less : order (get_or xs i d) (get_or xs k d) ≡ Less = less_from _ ((λ n. is_lt (order (sym xi n) (sym yk n))) ∙ e) in
              by_place j d l less (cases_lt j k);
          after = λ j d l m. absurd (omega arith);
        }
      where
        by_place : (j : ℕ) (d : L) → j < i → order (get_or xs i d) (get_or xs k d) ≡ Less → (j < k) ⊎ (k ≤ j) → order (get_or xs i d) (get_or xs j d) ≡ Less
        by_place j d l less (inl m) = total.through _ _ _ less (b.before j d m)
        by_place j d l less (inr m) = from_there j d l less (cases_lt k j) m
          where
            from_there : (j : ℕ) (d : L) → j < i → order (get_or xs i d) (get_or xs k d) ≡ Less → (k < j) ⊎ (j ≤ k) → k ≤ j → order (get_or xs i d) (get_or xs j d) ≡ Less
            from_there j d l less (inl m) n = below_through _ _ _ less (b.after j d m l)
            from_there j d l less (inr m) n = let e : k ≡ j = omega arith in ap (λ z. order (get_or xs i d) (get_or xs z d)) (sym e) ∙ less

    -- the one at i is not smaller
    pub best_kept : (xs : List L) (i k : ℕ) (x y : L) → Best xs i k → i < length xs → x ≡ get_or xs i x → y ≡ get_or xs k y → is_lt (order x y) ≡ false → Best xs (i + 1) k
    best_kept xs i k x y b h ex ey e =
        let seen = b.seen in
        record {
          seen = omega arith;
          before = b.before;
          after = λ j d l m less.
              let xi : x ≡ get_or xs i d = get_or_read xs i x h ex d in
              let yk : y ≡ get_or xs k d = get_or_read xs k y (omega arith) ey d in
              past j d l m less xi yk (cases_lt j i);
        }
      where
        past : (j : ℕ) (d : L) → k < j → j < i + 1 → order (get_or xs j d) (get_or xs k d) ≡ Less → x ≡ get_or xs i d → y ≡ get_or xs k d → (j < i) ⊎ (i ≤ j) → ⊥
        past j d l m less xi yk (inl n) = b.after j d l n less
        past j d l m less xi yk (inr n) =
            let at : j ≡ i = omega arith in
            let o : order x y ≡ Less = (λ t. order (xi t) (yk t)) ∙ ap (λ z. order (get_or xs z d) (get_or xs k d)) (sym at) ∙ less in
            true≢false (ap is_lt (sym o) ∙ e)
