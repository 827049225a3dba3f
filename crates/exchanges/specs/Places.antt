-- What stands at each place after a plain exchange. Assumes nothing.
use Rattle.std.specs.Prelude.{◌≡◌, ℕ, zero, suc, ◌+◌, ◌-◌, ◌*◌, ◌/◌, ◌%◌, ◌<◌, ◌≤◌, ◌≢◌, List, [], ◌++◌, length, get_or, take, drop, replicate, None, Option, slice_index_or, slice_set, refl}
use Rattle.std.proofs.Common.{sym, ap, subst, ◌∙◌, ⊎_elim, arith}
use Rattle.std.proofs.lemmas.Nat.{div-mul-add, mod-mul-add, mul-add-lt, div_below, mod_below, div-add-mod'}
use Rattle.std.proofs.lemmas.List.{length-set, length-append, length-drop, length-replicate, get_or-set_same, get_or-set_other, get_or_append_left, get_or-append_right, get_or-drop, get_or-take, ext_get_or}
use Rattle.std.proofs.lemmas.Bool.{cases_eq, cases_lt}
use Rattle.exchanges.specs.Plane.{Plane, carry, after}
use Rattle.exchanges.specs.Plain.{Heard, to_each, from_each}
use Rattle.exchanges.specs.Ran.{heard_at}

-- places of rows of n are apart
pub place_apart : (n a b c d : ℕ) → b < n → d < n → a * n + b ≡ c * n + d → (a ≡ c) × (b ≡ d)
place_apart n a b c d h k e =
    (sym (div-mul-add a n b h) ∙ ap (λ m. m / n) e ∙ div-mul-add c n d k, sym (mod-mul-add a n b h) ∙ ap (λ m. m % n) e ∙ mod-mul-add c n d k)

-- there are boards where there are pairs of them
pub above_none : (n i : ℕ) → i < n * n → 0 < n
above_none zero i h = absurd (omega arith)
above_none (suc n) i h = omega arith

module _ {I : Type 0} (n : ℕ) where
  to_length : (x : Option I) (s : ℕ) (h : Heard I) (d : ℕ) → length (to_each n x s h d).slots ≡ length h.slots
  to_length x s h zero = refl
  to_length x s h (suc d) = length-set (to_each n x s h d).slots (d * n + s) _ ∙ to_length x s h d

  pub from_length : (xs : List (Option I)) (h : Heard I) (k : ℕ) → length (from_each n xs h k).slots ≡ length h.slots
  from_length xs h zero = refl
  from_length xs h (suc k) = to_length (slice_index_or xs k None) k (from_each n xs h k) n ∙ from_length xs h k

  to_other : (x : Option I) (s : ℕ) (h : Heard I) (d i : ℕ) → ((e : ℕ) → e < d → i ≢ e * n + s) → slice_index_or (to_each n x s h d).slots i None ≡ slice_index_or h.slots i None
  to_other x s h zero i away = refl
  to_other x s h (suc d) i away =
      get_or-set_other (to_each n x s h d).slots (d * n + s) i _ None (away d (omega arith)) ∙ to_other x s h d i (λ e lt. away e (omega arith))

  -- what board p was answered when board s sent x to each of d boards
  to_same : (x : Option I) (s : ℕ) (h : Heard I) (d p : ℕ) → s < n → p < d → p * n + s < length h.slots → slice_index_or (to_each n x s h d).slots (p * n + s) None ≡ (to_each n x s h p).plane.answer [] s p x
  to_same x s h zero p sn lt within = absurd (omega arith)
  to_same x s h (suc d) p sn lt within =
      let l = (to_each n x s h d).slots in
      let P : ℕ → Type 0 = λ k. k * n + s < length h.slots → slice_index_or (slice_set l (d * n + s) ((to_each n x s h d).plane.answer [] s d x)) (k * n + s) None ≡ (to_each n x s h k).plane.answer [] s k x in
      let long : length l ≡ length h.slots = to_length x s h d in
      let here : P d = λ w. get_or-set_same l (d * n + s) _ None (omega arith) in
      ⊎_elim (λ e. subst P (sym e) here within) (λ ne. get_or-set_other l (d * n + s) (p * n + s) _ None (λ e. ne (place_apart n p s d s sn sn e).0) ∙ to_same x s h d p sn (omega arith) within) (cases_eq p d)

  -- the backplane as board q sends to board p
  abbrev pub plane_at : List (Option I) → Heard I → ℕ → ℕ → Plane I
  plane_at xs h q p = (to_each n (slice_index_or xs q None) q (from_each n xs h q) p).plane

  -- what board p was answered from board q
  pub from_at : (xs : List (Option I)) (h : Heard I) (k p q : ℕ) → k ≤ n → p < n → q < k → p * n + q < length h.slots → slice_index_or (from_each n xs h k).slots (p * n + q) None ≡ (plane_at xs h q p).answer [] q p (slice_index_or xs q None)
  from_at xs h zero p q kn pn qk within = absurd (omega arith)
  from_at xs h (suc k) p q kn pn qk within =
      let long : length (from_each n xs h k).slots ≡ length h.slots = from_length xs h k in
      let P : ℕ → Type 0 = λ j. p * n + j < length h.slots → slice_index_or (from_each n xs h (suc k)).slots (p * n + j) None ≡ (plane_at xs h j p).answer [] j p (slice_index_or xs j None) in
      let here : P k = λ w. to_same (slice_index_or xs k None) k (from_each n xs h k) n p (omega arith) pn (omega arith) in
      ⊎_elim (λ e. subst P (sym e) here within) (λ ne. to_other (slice_index_or xs k None) k (from_each n xs h k) n (p * n + q) (λ e lt f. ne (place_apart n p q e k (omega arith) (omega arith) f).1) ∙ from_at xs h k p q (omega arith) pn (omega arith) within) (cases_eq q k)

  -- what stands past the places of all boards stays
  pub from_past : (xs : List (Option I)) (h : Heard I) (k i : ℕ) → k ≤ n → n * n ≤ i → slice_index_or (from_each n xs h k).slots i None ≡ slice_index_or h.slots i None
  from_past xs h zero i kn past = refl
  from_past xs h (suc k) i kn past =
      to_other (slice_index_or xs k None) k (from_each n xs h k) n i (λ e lt f. omega (arith, mul-add-lt e n k n lt (omega arith))) ∙ from_past xs h k i (omega arith) past

  -- the backplane does not depend on the slots
  to_plane : (x : Option I) (s : ℕ) (h h' : Heard I) (d : ℕ) → h.plane ≡ h'.plane → (to_each n x s h d).plane ≡ (to_each n x s h' d).plane
  to_plane x s h h' zero e = e
  to_plane x s h h' (suc d) e = ap (λ b. after b (carry s d x)) (to_plane x s h h' d e)

  pub from_plane : (xs : List (Option I)) (h h' : Heard I) (k : ℕ) → h.plane ≡ h'.plane → (from_each n xs h k).plane ≡ (from_each n xs h' k).plane
  from_plane xs h h' zero e = e
  from_plane xs h h' (suc k) e = to_plane (slice_index_or xs k None) k _ _ n (from_plane xs h h' k e)

  plane_at_plane : (xs : List (Option I)) (h h' : Heard I) (q p : ℕ) → h.plane ≡ h'.plane → plane_at xs h q p ≡ plane_at xs h' q p
  plane_at_plane xs h h' q p e = to_plane (slice_index_or xs q None) q _ _ p (from_plane xs h h' q e)

  -- only what n boards send counts
  pub from_take : (xs : List (Option I)) (h : Heard I) (k : ℕ) → k ≤ n → from_each n (take n xs) h k ≡ from_each n xs h k
  from_take xs h zero kn = refl
  from_take xs h (suc k) kn =
      λ i. to_each n (get_or-take n xs k None (omega arith) i) k (from_take xs h k (omega arith) i) n

  same_at : (xs : List (Option I)) (b : Plane I) (l l' : List (Option I)) (p q : ℕ) → n * n ≤ length l → n * n ≤ length l' → p < n → q < n → slice_index_or (from_each n xs (heard_at b l) n).slots (p * n + q) None ≡ slice_index_or (from_each n xs (heard_at b l') n).slots (p * n + q) None
  same_at xs b l l' p q room room' pn qn =
      let within = mul-add-lt p n q n pn qn in
      from_at xs (heard_at b l) n p q (omega arith) pn qn (omega arith) ∙ ap (λ c. c.answer [] q p (slice_index_or xs q None)) (plane_at_plane xs (heard_at b l) (heard_at b l') q p refl) ∙ sym (from_at xs (heard_at b l') n p q (omega arith) pn qn (omega arith))

  -- longer slots are filled at the front
  pub from_front : (xs : List (Option I)) (b : Plane I) (l : List (Option I)) → n * n ≤ length l → (from_each n xs (heard_at b l) n).slots ≡ (from_each n xs (heard_at b (replicate (n * n) None)) n).slots ++ drop (n * n) l
  from_front xs b l room =
      let z : List (Option I) = replicate (n * n) None in
      let long : length z ≡ n * n = length-replicate (n * n) None in
      let full = (from_each n xs (heard_at b l) n).slots in
      let front = (from_each n xs (heard_at b z) n).slots in
      let lf : length full ≡ length l = from_length xs (heard_at b l) n in
      let lz : length front ≡ n * n = from_length xs (heard_at b z) n ∙ long in
      let lb : length (front ++ drop (n * n) l) ≡ length front + length (drop (n * n) l) = length-append front (drop (n * n) l) in
      let ld : length (drop (n * n) l) ≡ length l - n * n = length-drop (n * n) l in
      let P : ℕ → Type 0 = λ j. slice_index_or full j None ≡ get_or front j None in
      let inside : (i : ℕ) → i < n * n → P i = λ i lt.
      let pos : 0 < n = above_none n i lt in
      subst P (div-add-mod' i n) (same_at xs b l z (i / n) (i % n) room (omega arith) (div_below i n n pos lt) (mod_below i n pos)) in
      ext_get_or None full (front ++ drop (n * n) l) (omega arith) (λ i w. ⊎_elim (λ lt. inside i lt ∙ sym (get_or_append_left front (drop (n * n) l) None i (omega arith))) (λ past.
      let there : n * n + (i - n * n) ≡ i = omega arith in
      from_past xs (heard_at b l) n i (omega arith) past ∙ sym (get_or-append_right front (drop (n * n) l) (n * n) i None lz past ∙ get_or-drop (n * n) l (i - n * n) None ∙ ap (λ j. get_or l j None) there)) (cases_lt i (n * n)))
