-- A phase that the panel accepts, as a phase of the argument.
use Rattle.std.proofs.Common.{◌≡◌, ℕ, zero, suc, ◌+◌, ◌-◌, ◌*◌, ◌<◌, ◌≤◌, Bool, true, false, cond, ◌&&◌, eqb, ltb, leb, ◌⊎◌, List, [], ◌∷◌, ◌++◌, map, length, get_or, set, is_some as option_is_some, Some, None, Option, sym, refl, ap, ◌∙◌, subst, inl, inr, mul-le-mul_right, suc-mul, zero-mul, arith}
use Rattle.std.proofs.lemmas.List.{get_or-set_same, get_or-set_other, length-set}
use Rattle.std.proofs.lemmas.Bool.{and_parts, not-false, eqb-true, eq-eqb, ne_eqb, ltb-true, ltb-false, leb-false, le-leb, false≢true, cond-true, cond-false, cases_eq}
use Rattle.std.proofs.lemmas.List.FromFn.{get_or-map-range_with_len, length-map-range_with_len}
use Rattle.std.specs.List.{range_with_len}
use Rattle.exchanges.specs.Plane.{last_round}
use Rattle.exchanges.specs.Boards.{count, fits, Sound}
use Rattle.labels.specs.Order.{Total}
use Rattle.labels.specs.Refusals.{first_row}
use Rattle.exchanges.specs.Exchange.{Exchange, Keeps, Goes, AllSized, Few, Ask, firm, plain, heard, sent, good, round_on, round_after, rounds}
use Rattle.panel.specs.Slots.{Comparison, Slot, with_phase, or_else}
use Rattle.labels.specs.declared.slip.Slip.{Slip}
use Rattle.panel.specs.Phase.{enough}
use Rattle.panel.specs.Panel.{State, at, put, Lengths, phase, column, firsts, firm_row, new_pick, picked, pick_row, new_estimate, estimated, estimate_row, new_verdict, decided, table, refusal}
use Rattle.panel.proofs.Counts.{count_all, count_same}
use Rattle.panel.proofs.Slips.{none≢some}
use Rattle.panel.proofs.Safe.{Phase, Safe}
use Rattle.panel.proofs.Sure.{Lossless}

-- where no row is returned, none fits
abbrev pub Unfit : List (Bool × ℕ) → Type 0
Unfit [] = Unit {0}
Unfit (a ∷ l) = (a.0 ≡ false) × Unfit l

pub none_fits : (l : List (Bool × ℕ)) → first_row l ≡ None → Unfit l
none_fits [] h = tt
none_fits (a ∷ l) h = go a.0 refl h (none_fits l)
  where
    go : (b : Bool) → a.0 ≡ b → cond b (Some a.1) (first_row l) ≡ None → (first_row l ≡ None → Unfit l) → (a.0 ≡ false) × Unfit l
    go true e k ih = absurd (none≢some a.1 (sym k))
    go false e k ih = (e, ih k)

pub is_some : {A : Type 0} (x : Option A) → option_is_some x ≡ true → (a : A) × (x ≡ Some a)
is_some None h = absurd (false≢true h)
is_some (Some a) h = (a, refl)

-- what an accepted phase tells of the panel and the exchange
pub record Allowed {L : Type 0} (s : State L) (x : Exchange (Slip L)) : Type 0 where
  pub some_boards : 0 < s.boards
  pub proposed : (q : ℕ) → q < s.boards → (r : Slip L) × (at s.slots q 0 ≡ Some r)
  pub room : s.phases < 8
  pub same_boards : x.boards ≡ s.boards
  pub same_faults : x.faults ≡ s.faults
  pub in_time : x.round + (s.phases + 1) * x.firm_rounds + 2 ≤ last_round

pub allowed : {L : Type 0} (s : State L) (x : Exchange (Slip L)) (m : Lengths) → refusal s (phase x m) ≡ None → Allowed s x
allowed s x m h =
    let r = none_fits (table s (phase x m)) h in
    let e = and_parts (eqb x.boards s.boards) (eqb x.faults s.faults) (not-false _ r.1.1.1.0) in
    record {
      some_boards = ltb-true _ _ (not-false _ r.0);
      proposed = λ q l. is_some (at s.slots q 0) (count_all (λ q. option_is_some (at s.slots q 0)) s.boards (ltb-false _ _ r.1.0) q l);
      room = leb-false _ _ r.1.1.0;
      same_boards = eqb-true _ _ e.0;
      same_faults = eqb-true _ _ e.1;
      in_time = ltb-false _ _ r.1.1.1.1.1.0;
    }

-- the round at which an exchange begins
pub round_append : {I : Type 0} (F r : ℕ) (l k : List (Ask I)) → round_after F r (l ++ k) ≡ round_after F (round_after F r l) k
round_append F r [] k = refl
round_append F r (a ∷ l) k = round_append F (round_on F r a) l k

sized_append : {I : Type 0} (n : ℕ) (l : List (Ask I)) (a : Ask I) → AllSized n l → length (sent a) ≡ n → AllSized n (l ++ (a ∷ []))
sized_append n [] a h e = (e, tt)
sized_append n (b ∷ l) a h e = (h.0, sized_append n l a h.1 e)

pub column_length : {L : Type 0} (n : ℕ) (slots : List (Slot L)) (k : ℕ) → length (column n slots k) ≡ n
column_length n slots k = length-map-range_with_len (λ q. at slots q k) 0 n

-- the first exchanges
module _ {L : Type 0} (n : ℕ) (slots : List (Slot L)) where
  pub firsts_sized : (g : ℕ) → AllSized n (firsts n slots g)
  firsts_sized zero = tt
  firsts_sized (suc g) = sized_append n (firsts n slots g) (firm (column n slots g)) (firsts_sized g) (column_length n slots g)

  pub round_firsts : (F r g : ℕ) → r + g * F ≤ last_round → round_after F r (firsts n slots g) ≡ r + g * F
  round_firsts F r zero h = let z = zero-mul F in omega arith
  round_firsts F r (suc g) h =
      let m = suc-mul g F in
      let i : round_after F r (firsts n slots g) ≡ r + g * F = round_firsts F r g (omega arith) in
      round_append F r (firsts n slots g) (firm (column n slots g) ∷ [])
      ∙ (ap (λ u. round_on F u (firm (column n slots g))) i
      ∙ (cond-true (leb (r + g * F + F) last_round) (r + g * F + F) (r + g * F) (le-leb (r + g * F + F) last_round (omega arith)) ∙ omega arith))

-- one place of each board replaced
module _ {L : Type 0} (k : ℕ) (small : k < 10) (c : ℕ → Slot L) (slots : List (Slot L)) where
  pub put_length : (n : ℕ) → length (put k c slots n) ≡ length slots
  put_length zero = refl
  put_length (suc n) = length-set (put k c slots n) (10 * n + k) (c n) ∙ put_length n

  -- the places of the boards from n on are as they were
  pub put_above : (n i : ℕ) → 10 * n ≤ i → get_or (put k c slots n) i None ≡ get_or slots i None
  put_above zero i h = refl
  put_above (suc n) i h = get_or-set_other (put k c slots n) (10 * n + k) i (c n) None (omega arith) ∙ put_above n i (omega arith)

  pub put_at : (n : ℕ) → 10 * n ≤ length slots → (q j : ℕ) → q < n → j < 10 → at (put k c slots n) q j ≡ cond (eqb j k) (c q) (at slots q j)
  put_at zero room q j lq lj = absurd (omega arith)
  put_at (suc n) room q j lq lj = go (cases_eq q n) (cases_eq j k) (λ l. put_at n (omega arith) q j l lj)
    where
      within : 10 * n + k < length (put k c slots n)
      within = let e = put_length n in omega arith

      go : (q ≡ n) ⊎ (q ≡ n → ⊥) → (j ≡ k) ⊎ (j ≡ k → ⊥) → (q < n → at (put k c slots n) q j ≡ cond (eqb j k) (c q) (at slots q j)) → get_or (set (put k c slots n) (10 * n + k) (c n)) (10 * q + j) None ≡ cond (eqb j k) (c q) (at slots q j)
      go (inl e) (inl d) ih =
          ap (λ u. get_or (set (put k c slots n) (10 * n + k) (c n)) u None) (let z : 10 * q + j ≡ 10 * n + k = omega arith in z)
          ∙ (get_or-set_same (put k c slots n) (10 * n + k) (c n) None within
          ∙ (ap c (sym e) ∙ sym (cond-true (eqb j k) (c q) (at slots q j) (eq-eqb j k d))))
      go (inl e) (inr d) ih =
          get_or-set_other (put k c slots n) (10 * n + k) (10 * q + j) (c n) None (λ z. d (omega arith))
          ∙ (put_above n (10 * q + j) (omega arith) ∙ sym (cond-false (eqb j k) (c q) (at slots q j) (ne_eqb j k d)))
      go (inr e) d ih =
          get_or-set_other (put k c slots n) (10 * n + k) (10 * q + j) (c n) None (λ z. e (omega arith))
          ∙ ih (omega arith)

module _ {L : Type 0} (o : Comparison L) (n t f : ℕ) (x : Exchange (Slip L)) (slots : List (Slot L)) (early : f < 9) (late : 1 ≤ f) (R : 10 * n ≤ length slots) where
  -- the slots after each step
  pub picked_length : length (picked o n t f x slots) ≡ length slots
  unfolding picked
  picked_length = put_length f (omega arith) (new_pick o n t f x slots) slots n

  pub estimated_length : length (estimated o n t f x slots) ≡ length slots
  unfolding estimated
  estimated_length = put_length 0 (omega arith) (new_estimate o n t f x slots) (picked o n t f x slots) n ∙ picked_length

  pub decided_length : length (decided o n t f x slots) ≡ length slots
  unfolding decided
  decided_length = put_length 9 (omega arith) (new_verdict o n t f x slots) (estimated o n t f x slots) n ∙ estimated_length

  pub at_picked : (q j : ℕ) → q < n → j < 10 → at (picked o n t f x slots) q j ≡ cond (eqb j f) (new_pick o n t f x slots q) (at slots q j)
  unfolding picked
  at_picked = put_at f (omega arith) (new_pick o n t f x slots) slots n R

  pub at_estimated : (q j : ℕ) → q < n → j < 10 → at (estimated o n t f x slots) q j ≡ cond (eqb j 0) (new_estimate o n t f x slots q) (at (picked o n t f x slots) q j)
  unfolding estimated
  at_estimated = put_at 0 (omega arith) (new_estimate o n t f x slots) (picked o n t f x slots) n (let e = picked_length in omega arith)

  pub at_decided : (q j : ℕ) → q < n → j < 10 → at (decided o n t f x slots) q j ≡ cond (eqb j 9) (new_verdict o n t f x slots q) (at (estimated o n t f x slots) q j)
  unfolding decided
  at_decided = put_at 9 (omega arith) (new_verdict o n t f x slots) (estimated o n t f x slots) n (let e = estimated_length in omega arith)

  -- a place other than this phase's pick is not changed by the picks
  pub picked_other : (q j : ℕ) → q < n → j < 10 → (j ≡ f → ⊥) → at (picked o n t f x slots) q j ≡ at slots q j
  picked_other q j lq lj h = at_picked q j lq lj ∙ cond-false (eqb j f) _ _ (ne_eqb j f h)

  -- a place from 1 to 8
  pub middle_at : (q j : ℕ) → q < n → 1 ≤ j → j < 9 → at (decided o n t f x slots) q j ≡ cond (eqb j f) (new_pick o n t f x slots q) (at slots q j)
  middle_at q j lq a b =
      at_decided q j lq (omega arith)
      ∙ (cond-false (eqb j 9) _ _ (ne_eqb j 9 (λ e. omega arith))
      ∙ (at_estimated q j lq (omega arith) ∙ (cond-false (eqb j 0) _ _ (ne_eqb j 0 (λ e. omega arith)) ∙ at_picked q j lq (omega arith))))

  pub estimate_at : (q : ℕ) → q < n → at (decided o n t f x slots) q 0 ≡ or_else (with_phase f (enough o n (n - t) f (pick_row o n t f x slots q))) (at slots q 0)
  estimate_at q lq =
      at_decided q 0 lq (omega arith)
      ∙ (at_estimated q 0 lq (omega arith)
      ∙ ap (or_else (with_phase f (enough o n (n - t) f (pick_row o n t f x slots q)))) (picked_other q 0 lq (omega arith) (λ e. omega arith)))

  pub verdict_at : (q : ℕ) → q < n → at (decided o n t f x slots) q 9 ≡ or_else (at slots q 9) (with_phase f (enough o n (2 * t + 1) f (estimate_row o n t f x slots q)))
  verdict_at q lq =
      at_decided q 9 lq (omega arith)
      ∙ ap (λ u. or_else u (with_phase f (enough o n (2 * t + 1) f (estimate_row o n t f x slots q))))
      (at_estimated q 9 lq (omega arith) ∙ picked_other q 9 lq (omega arith) (λ e. omega arith))

  pub pick_at : (q : ℕ) → q < n → at (decided o n t f x slots) q f ≡ new_pick o n t f x slots q
  pick_at q lq = middle_at q f lq late early ∙ cond-true (eqb f f) _ _ (eq-eqb f f refl)

  pub other_at : (q k : ℕ) → q < n → 1 ≤ k → k < f → at (decided o n t f x slots) q k ≡ at slots q k
  other_at q k lq a b = middle_at q k lq a (omega arith) ∙ cond-false (eqb k f) _ _ (ne_eqb k f (λ e. omega arith))

  pub picked_at : (q : ℕ) → q < n → at (picked o n t f x slots) q f ≡ at (decided o n t f x slots) q f
  picked_at q lq = at_picked q f lq (omega arith) ∙ (cond-true (eqb f f) _ _ (eq-eqb f f refl) ∙ sym (pick_at q lq))

  pub estimated_at : (q : ℕ) → q < n → at (estimated o n t f x slots) q 0 ≡ at (decided o n t f x slots) q 0
  estimated_at q lq = sym (at_decided q 0 lq (omega arith))

module _ {L : Type 0} {o : Comparison L} (T : Total o) (n t F : ℕ) (x : Exchange (Slip L)) (slots : List (Slot L)) (bad : ℕ → Bool) (A : Allowed (record { boards = n; faults = t; phases = F; slots = slots }) x) (M : fits n t ≡ true) (R : 10 * n ≤ length slots) (K : Keeps x) (same_bad : (q : ℕ) → q < x.boards → x.bad q ≡ bad q) (few : count bad x.boards ≤ x.faults) where
  abbrev f : ℕ
  f = F + 1

  early : f < 9
  early = let r = A.room in omega arith

  late : 1 ≤ f
  late = omega arith

  abbrev firm_list : ℕ → List (Ask (Slip L))
  firm_list = firsts n slots

  abbrev plain_picks : Ask (Slip L)
  plain_picks = plain (column n (picked o n t f x slots) f)

  abbrev plain_estimates : Ask (Slip L)
  plain_estimates = plain (column n (estimated o n t f x slots) 0)

  few_here : count bad n ≤ t
  few_here =
      let a : count bad x.boards ≡ count bad n = ap (count bad) A.same_boards in
      let b = A.same_faults in
      omega arith

  fit_there : fits x.boards x.faults ≡ true
  fit_there = ap (λ k. fits k x.faults) A.same_boards ∙ (ap (fits n) A.same_faults ∙ M)

  few_there : Few x
  few_there =
      let e : count x.bad x.boards ≡ count bad x.boards = count_same x.bad bad x.boards same_bad in
      omega arith

  sound : (q : ℕ) → Sound n bad q → Sound x.boards x.bad q
  sound q h =
      let e = A.same_boards in
      let l : q < n = h.0 in
      let k : q < x.boards = omega arith in
      (k, same_bad q k ∙ h.1)

  many : 3 * t < n
  many =
      let a = and_parts (ltb 0 n) (leb n 7 && ltb (3 * t) n) M in
      let b = and_parts (leb n 7) (ltb (3 * t) n) a.1 in
      ltb-true _ _ b.1

  sent_is : (c : ℕ → Slot L) (q : ℕ) → q < n → get_or (map c (range_with_len 0 n)) q None ≡ c q
  sent_is c q l = get_or-map-range_with_len c 0 n q q None l (omega arith)

  goes : (l : List (Ask (Slip L))) (a : Ask (Slip L)) → length (sent a) ≡ n → AllSized n l → round_after x.firm_rounds x.round l + rounds x.firm_rounds a ≤ last_round → Goes x l a
  goes l a e h i = record { fit = fit_there; sized = e ∙ sym A.same_boards; all_sized = subst (λ k. AllSized k l) (sym A.same_boards) h; timely = i }

  -- what one exchange, which sends c, gives a sound board from another
  faith : (l : List (Ask (Slip L))) (a : Ask (Slip L)) → Goes x l a → (c : ℕ → Slot L) → sent a ≡ map c (range_with_len 0 n) → (p q : ℕ) → Sound n bad p → Sound n bad q → (heard n (x.fills l a) p q ≡ c q) ⊎ (heard n (x.fills l a) p q ≡ None)
  faith l a i c e p q fp fq = go (K.faithful few_there l a i p q (sound p fp) (sound q fq))
    where
      to_c : get_or (sent a) q None ≡ c q
      to_c = ap (λ u. get_or u q None) e ∙ sent_is c q fq.0

      here : heard n (x.fills l a) p q ≡ heard x.boards (x.fills l a) p q
      here = ap (λ k. heard k (x.fills l a) p q) (sym A.same_boards)

      go : (heard x.boards (x.fills l a) p q ≡ get_or (sent a) q None) ⊎ (heard x.boards (x.fills l a) p q ≡ None) → (heard n (x.fills l a) p q ≡ c q) ⊎ (heard n (x.fills l a) p q ≡ None)
      go (inl h) = inl (here ∙ (h ∙ to_c))
      go (inr h) = inr (here ∙ h)

  delivered : (l : List (Ask (Slip L))) (a : Ask (Slip L)) → Goes x l a → (c : ℕ → Slot L) → sent a ≡ map c (range_with_len 0 n) → good x (round_after x.firm_rounds x.round l) a ≡ true → (p q : ℕ) → Sound n bad p → Sound n bad q → heard n (x.fills l a) p q ≡ c q
  delivered l a i c e g p q fp fq =
      ap (λ k. heard k (x.fills l a) p q) (sym A.same_boards)
      ∙ (K.delivers few_there l a i g p q (sound p fp) (sound q fq) ∙ (ap (λ u. get_or u q None) e ∙ sent_is c q fq.0))

  along : {a b c : Slot L} → b ≡ c → (a ≡ b) ⊎ (a ≡ None) → (a ≡ c) ⊎ (a ≡ None)
  along e (inl h) = inl (h ∙ e)
  along e (inr h) = inr h

  -- the rounds at which the exchanges begin
  firm_round : (g : ℕ) → g ≤ f → round_after x.firm_rounds x.round (firm_list g) ≡ x.round + g * x.firm_rounds
  firm_round g l =
      let a = A.in_time in
      let b : g * x.firm_rounds ≤ f * x.firm_rounds = mul-le-mul_right x.firm_rounds l in
      round_firsts n slots x.firm_rounds x.round g (omega arith)

  last_round_is : round_after x.firm_rounds x.round (firm_list f ++ (plain_picks ∷ [])) ≡ x.round + f * x.firm_rounds + 1
  last_round_is =
      let a = A.in_time in
      round_append x.firm_rounds x.round (firm_list f) (plain_picks ∷ [])
      ∙ (ap (λ u. round_after x.firm_rounds u (plain_picks ∷ [])) (firm_round f (omega arith))
      ∙ cond-true (leb (x.round + f * x.firm_rounds + 1) last_round) (x.round + f * x.firm_rounds + 1) (x.round + f * x.firm_rounds) (le-leb (x.round + f * x.firm_rounds + 1) last_round (omega arith)))

  -- no exchange of the phase is refused
  firm_goes : (g : ℕ) → g < f → Goes x (firm_list g) (firm (column n slots g))
  firm_goes g l =
      let a = A.in_time in
      let e = firm_round g (omega arith) in
      let m : suc g * x.firm_rounds ≡ g * x.firm_rounds + x.firm_rounds = suc-mul g x.firm_rounds in
      let b : suc g * x.firm_rounds ≤ f * x.firm_rounds = mul-le-mul_right x.firm_rounds l in
      goes (firm_list g) (firm (column n slots g)) (column_length n slots g) (firsts_sized n slots g) (omega arith)

  picks_goes : Goes x (firm_list f) plain_picks
  picks_goes =
      let a = A.in_time in
      let e = firm_round f (omega arith) in
      goes (firm_list f) plain_picks (column_length n (picked o n t f x slots) f) (firsts_sized n slots f) (omega arith)

  estimates_goes : Goes x (firm_list f ++ (plain_picks ∷ [])) plain_estimates
  estimates_goes =
      let a = A.in_time in
      let e = last_round_is in
      goes (firm_list f ++ (plain_picks ∷ [])) plain_estimates (column_length n (estimated o n t f x slots) 0) (sized_append n (firm_list f) plain_picks (firsts_sized n slots f) (column_length n (picked o n t f x slots) f)) (omega arith)

  pub the_phase : Phase o n t bad F f (at slots) (at (decided o n t f x slots))
  the_phase = record {
    total = T;
    next = refl;
    many = many;
    few = few_here;
    firm_heard = firm_row o n t f x slots;
    picks_heard = pick_row o n t f x slots;
    estimates_heard = estimate_row o n t f x slots;
    firm_faithful = λ g p q l fp fq. faith (firm_list g) (firm (column n slots g)) (firm_goes g l) (λ q. at slots q g) refl p q fp fq;
    picks_faithful = λ p q fp fq. along (picked_at o n t f x slots early late R q fq.0) (faith (firm_list f) plain_picks picks_goes (λ q. at (picked o n t f x slots) q f) refl p q fp fq);
    estimates_faithful = λ p q fp fq. along (estimated_at o n t f x slots early late R q fq.0) (faith (firm_list f ++ (plain_picks ∷ [])) plain_estimates estimates_goes (λ q. at (estimated o n t f x slots) q 0) refl p q fp fq);
    pick_is = pick_at o n t f x slots early late R;
    estimate_is = estimate_at o n t f x slots early late R;
    verdict_is = verdict_at o n t f x slots early late R;
    other_is = other_at o n t f x slots early late R;
  }

  -- a phase of steady and clear exchanges loses nothing
  module _ (S : Safe o n t bad F (at slots))
      (steady : (g : ℕ) → g ≤ F → x.steady (x.round + g * x.firm_rounds) ≡ true)
      (clear_picks : x.clear (x.round + f * x.firm_rounds) ≡ true)
      (clear_estimates : x.clear (x.round + f * x.firm_rounds + 1) ≡ true) where
    steady_at : (g : ℕ) → g < f → x.steady (round_after x.firm_rounds x.round (firm_list g)) ≡ true
    steady_at g l = ap x.steady (firm_round g (omega arith)) ∙ steady g (omega arith)

    pub lossless : Lossless the_phase S
    unfolding the_phase
    lossless = record {
      proposed = λ q fq. A.proposed q fq.0;
      firm_same = λ g p p' q l fp fp' lq.
          let e = A.same_boards in
          let k : heard x.boards (x.fills (firm_list g) (firm (column n slots g))) p q ≡ heard x.boards (x.fills (firm_list g) (firm (column n slots g))) p' q = K.agrees few_there (firm_list g) (column n slots g) (firm_goes g l) (steady_at g l) p p' q (sound p fp) (sound p' fp') (omega arith) in
          subst (λ m. heard m (x.fills (firm_list g) (firm (column n slots g))) p q ≡ heard m (x.fills (firm_list g) (firm (column n slots g))) p' q) e k;
      firm_all = λ g p q l fp fq. delivered (firm_list g) (firm (column n slots g)) (firm_goes g l) (λ q. at slots q g) refl (steady_at g l) p q fp fq;
      picks_all = λ p q fp fq. delivered (firm_list f) plain_picks picks_goes (λ q. at (picked o n t f x slots) q f) refl (ap x.clear (firm_round f (omega arith)) ∙ clear_picks) p q fp fq ∙ picked_at o n t f x slots early late R q fq.0;
      estimates_all = λ p q fp fq. delivered (firm_list f ++ (plain_picks ∷ [])) plain_estimates estimates_goes (λ q. at (estimated o n t f x slots) q 0) refl (ap x.clear last_round_is ∙ clear_estimates) p q fp fq ∙ estimated_at o n t f x slots early late R q fq.0;
    }
