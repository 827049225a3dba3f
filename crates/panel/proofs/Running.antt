-- The steps of a phase one after another.
use Rattle.std.proofs.Common.{◌≡◌, ℕ, zero, suc, ◌+◌, ◌-◌, ◌*◌, ◌<◌, ◌≤◌, Bool, true, false, cond, ◌&&◌, eqb, leb, List, [], ◌∷◌, ◌++◌, map, length, get_or, take, drop, set, Some, None, Option, sym, refl, ap, ◌∙◌, ⊎_elim, append_assoc, mul-le-mul_right, one-mul, zero-mul, arith}
use borrow.Rule.Slice.PartMut.{put_mid}
use Rattle.std.proofs.lemmas.Nat.{mul-add-lt}
use Rattle.std.proofs.lemmas.List.{get_or_append_left, get_or-map, get_or-take, get_or-drop, length-map, length-take-le}
use Rattle.std.proofs.lemmas.Slice.{drop-put_mid}
use Rattle.std.proofs.lemmas.Bool.{and_parts, cond-true, eqb-true, le-leb, cases_lt}
use Rattle.labels.specs.declared.slip.Slip.{Slip}
use Rattle.labels.specs.Order.{Total}
use Rattle.exchanges.specs.Boards.{count}
use Rattle.exchanges.specs.Plane.{last_round}
use Rattle.exchanges.specs.Exchange.{Exchange, Ask, plain, firm, after_ask}
use Rattle.panel.specs.Slots.{Slot, Comparison, same, is_slip, with_phase, label_of, or_else}
use Rattle.panel.specs.Phase.{Row, as_claim, as_pick, later, only, heard_enough, best_heard, enough, choice_of, choice}
use Rattle.panel.specs.Votes.{block_row}
use Rattle.panel.specs.Panel.{at, column, put, firsts, firm_row, new_pick, picked, pick_row, new_estimate, estimated, estimate_row, new_verdict, decided, asks, after_asks}
use Rattle.panel.specs.Steps.{Filled}
use Rattle.exchanges.specs.declared.exchange.Exchange.{Ghosts}
use Rattle.panel.specs.declared.run.Run.{Run}
use Rattle.panel.specs.Runs.{GoesOn}
use Rattle.panel.proofs.Slips.{slip_path, claim_from, only_from}
use Rattle.panel.proofs.Counts.{count_same}
use Rattle.panel.proofs.Rows.{best_from, best_same}
use Rattle.panel.proofs.Chosen.{choice_same}
use Rattle.panel.proofs.Hearing.{after_snoc, fills_after}

pub square_at_least : (n : ℕ) → n ≤ n * n
square_at_least n =
    ⊎_elim (λ lt. let more : 1 * n ≤ n * n = mul-le-mul_right n lt in omega (arith, one-mul n)) (λ none. omega arith) (cases_lt 0 n)

pub put_same : {L : Type 0} (k : ℕ) (c c' : ℕ → Slot L) (slots : List (Slot L)) (n : ℕ) → ((p : ℕ) → p < n → c p ≡ c' p) → put k c slots n ≡ put k c' slots n
put_same k c c' slots zero h = refl
put_same k c c' slots (suc n) h =
    ap (λ u. set u (10 * n + k) (c n)) (put_same k c c' slots n (λ p l. h p (omega arith))) ∙ ap (set (put k c' slots n) (10 * n + k)) (h n (omega arith))

-- the slip that was heard often enough has the number of the phase
pub enough_slip : {L : Type 0} (o : Comparison L) (n k f : ℕ) (row : Row L) → best_heard o n k f row ≡ with_phase f (enough o n k f row)
unfolding enough
enough_slip o n k f row = go (best_heard o n k f row) refl
  where
    go : (x : Slot _) → best_heard o n k f row ≡ x → x ≡ with_phase f (label_of x)
    go None e = refl
    go (Some s) e =
        let b = best_from (later o) (λ q. only (heard_enough o n k f row) (row q)) n s e in
        let c = only_from (heard_enough o n k f row) (row b.0) s b.2 in
        let a = and_parts (eqb s.phase f) (leb k (count (λ q. is_slip o s.label f (row q)) n)) c.1 in
        ap Some (slip_path s s.label f refl (eqb-true s.phase f a.0))

-- the counts of a board look at nothing but the row of the n boards
heard_same : {L : Type 0} (o : Comparison L) (n k f : ℕ) (row row' : Row L) → ((q : ℕ) → q < n → row q ≡ row' q) → best_heard o n k f row ≡ best_heard o n k f row'
heard_same {L} o n k f row row' h = best_same (later o) (later o) _ _ n (λ s r. refl) (λ q l. ap (λ P. only P (row q)) tests ∙ ap (only (heard_enough o n k f row')) (h q l))
  where
    tests : heard_enough o n k f row ≡ heard_enough o n k f row'
    tests = λ i s. eqb s.phase f && leb k (count_same (λ q. is_slip o s.label f (row q)) (λ q. is_slip o s.label f (row' q)) n (λ q l. ap (is_slip o s.label f) (h q l)) i)

-- where a place of a block lies in the memory
block_at : {L : Type 0} (n p : ℕ) (h : List (Slot L)) (c q : ℕ) → q < n → block_row n p h c q ≡ get_or h (c * (n * n) + p * n + q) None
block_at n p h c q l = get_or-take n (drop (c * (n * n) + p * n) h) q None l ∙ get_or-drop (c * (n * n) + p * n) h q None

first_at : {L : Type 0} (n p : ℕ) (h : List (Slot L)) (q : ℕ) → q < n → block_row n p h 0 q ≡ get_or h (p * n + q) None
first_at n p h q l = block_at n p h 0 q l ∙ ap (λ i. get_or h i None) (let e : 0 * (n * n) + p * n + q ≡ p * n + q = omega (arith, zero-mul (n * n)) in e)

-- a pick that counts for a phase has its number anyway
slip_pick : {L : Type 0} (o : Comparison L) (v : L) (g : ℕ) (x : Slot L) → is_slip o v g x ≡ is_slip o v g (as_pick g x)
slip_pick o v g None = refl
slip_pick o v g (Some s) = go (eqb s.phase g) refl
  where
    none : (a : Bool) → (a && false) ≡ false
    none true = refl
    none false = refl

    go : (b : Bool) → eqb s.phase g ≡ b → (same o v s.label && eqb s.phase g) ≡ is_slip o v g (cond b (Some s) None)
    go true e = refl
    go false e = ap (λ u. same o v s.label && u) e ∙ none (same o v s.label)

module _ {L : Type 0} {o : Comparison L} (T : Total o) (n t f : ℕ) (x : Exchange (Slip L)) (slots blocks claims : List (Slot L)) (first : 1 ≤ f) (filled : Filled x n slots f blocks) (room : n * n ≤ length blocks) (kept : claims ≡ map (as_claim f) (take (n * n - 0) (drop 0 blocks))) where
  abbrev after_keep : List (Slot L)
  after_keep = put_mid 0 (n * n - 0) blocks claims

  abbrev firm_list : ℕ → List (Slot L)
  firm_list g = x.fills (firsts n slots g) (firm (column n slots g))

  front : take (n * n - 0) (drop 0 blocks) ≡ firm_list 0
  front =
      ap (λ k. take k (drop 0 blocks)) (let z : n * n - 0 ≡ n * n = omega arith in z)
      ∙ (ap (λ k. take (n * n) (drop k blocks)) (sym (zero-mul (n * n))) ∙ filled 0 first)

  claims_long : length claims ≡ n * n
  claims_long = ap length kept ∙ (length-map (take (n * n - 0) (drop 0 blocks)) (as_claim f) ∙ (length-take-le (n * n - 0) blocks (omega arith) ∙ omega arith))

  claim_at : (p q : ℕ) → p < n → q < n → block_row n p after_keep 0 q ≡ as_claim f (firm_row o n t f x slots p 0 q)
  claim_at p q lp lq =
      let l : p * n + q < n * n = mul-add-lt p n q n lp lq in
      let long = claims_long in
      let e = length-take-le (n * n - 0) blocks (omega arith) in
      first_at n p after_keep q lq
      ∙ (get_or_append_left claims _ None (p * n + q) (omega arith)
      ∙ (ap (λ u. get_or u (p * n + q) None) kept
      ∙ (get_or-map (as_claim f) (take (n * n - 0) (drop 0 blocks)) (p * n + q) None None (omega arith)
      ∙ ap (λ u. as_claim f (get_or u (p * n + q) None)) front)))

  pick_at : (g p q : ℕ) → 0 < g → g < f → p < n → q < n → block_row n p after_keep g q ≡ firm_row o n t f x slots p g q
  pick_at g p q pos lg lp lq =
      let l : p * n + q < n * n = mul-add-lt p n q n lp lq in
      let a : 1 * (n * n) ≤ g * (n * n) = mul-le-mul_right (n * n) pos in
      let b = one-mul (n * n) in
      let long = claims_long in
      block_at n p after_keep g q lq
      ∙ (ap (λ i. get_or after_keep i None) (let z : g * (n * n) + p * n + q ≡ g * (n * n) + (p * n + q) = omega arith in z)
      ∙ (sym (get_or-drop (g * (n * n)) after_keep (p * n + q) None)
      ∙ (ap (λ u. get_or u (p * n + q) None) (drop-put_mid 0 (n * n - 0) blocks claims (g * (n * n)) (omega arith) (omega arith) (omega arith))
      ∙ (sym (get_or-take (n * n) (drop (g * (n * n)) blocks) (p * n + q) None l)
      ∙ ap (λ u. get_or u (p * n + q) None) (filled g lg)))))

  pub picks_chosen : (chosen : List (Slot L)) → chosen ≡ put f (λ p. with_phase f (choice_of o n t (block_row n p after_keep 0) (block_row n p after_keep))) slots n → chosen ≡ picked o n t f x slots
  unfolding picked choice
  picks_chosen chosen e =
      e ∙ put_same f _ (new_pick o n t f x slots) slots n (λ p lp. ap (with_phase f)
      (choice_same T n t f (block_row n p after_keep 0) (λ q. as_claim f (firm_row o n t f x slots p 0 q)) (block_row n p after_keep) (λ g q. as_pick g (firm_row o n t f x slots p g q))
      (λ q s h. (claim_from f (firm_row o n t f x slots p 0 q) s h).1)
      (λ q lq. claim_at p q lp lq)
      (λ v g q pos lg lq. ap (is_slip o v g) (pick_at g p q pos lg lp lq) ∙ slip_pick o v g (firm_row o n t f x slots p g q))))

-- the whole phase
module _ {L : Type 0} (o : Comparison L) (n t f : ℕ) (x : Exchange (Slip L)) (slots : List (Slot L)) where
  abbrev adopt_from : Exchange (Slip L) → List (Slot L) → List (Slot L)
  adopt_from y s = put 0 (λ p. or_else (best_heard o n (n - t) f (block_row n p (y.fills [] (plain (column n s f))) 0)) (at s p 0)) s n

  abbrev settle_from : Exchange (Slip L) → List (Slot L) → List (Slot L)
  settle_from y s = put 9 (λ p. or_else (at s p 9) (best_heard o n (2 * t + 1) f (block_row n p (y.fills [] (plain (column n s 0))) 0))) s n

  abbrev send_picks : Ask (Slip L)
  send_picks = plain (column n (picked o n t f x slots) f)

  abbrev send_estimates : Ask (Slip L)
  send_estimates = plain (column n (estimated o n t f x slots) 0)

  adopted : (y : Exchange (Slip L)) → y ≡ after_asks x (firsts n slots f) → adopt_from y (picked o n t f x slots) ≡ estimated o n t f x slots
  unfolding estimated
  adopted y e = put_same 0 _ (new_estimate o n t f x slots) (picked o n t f x slots) n (λ p lp.
      ap (λ u. or_else u (at (picked o n t f x slots) p 0))
      (ap (λ h. best_heard o n (n - t) f (block_row n p h 0)) (fills_after x (firsts n slots f) y send_picks e)
      ∙ (heard_same o n (n - t) f _ (pick_row o n t f x slots p) (first_at n p _) ∙ enough_slip o n (n - t) f (pick_row o n t f x slots p))))

  settled : (z : Exchange (Slip L)) → z ≡ after_asks x (firsts n slots f ++ (send_picks ∷ [])) → settle_from z (estimated o n t f x slots) ≡ decided o n t f x slots
  unfolding decided
  settled z e = put_same 9 _ (new_verdict o n t f x slots) (estimated o n t f x slots) n (λ p lp.
      ap (or_else (at (estimated o n t f x slots) p 9))
      (ap (λ h. best_heard o n (2 * t + 1) f (block_row n p h 0)) (fills_after x (firsts n slots f ++ (send_picks ∷ [])) z send_estimates e)
      ∙ (heard_same o n (2 * t + 1) f _ (estimate_row o n t f x slots p) (first_at n p _) ∙ enough_slip o n (2 * t + 1) f (estimate_row o n t f x slots p))))

  pub ran : (y z w : Exchange (Slip L)) (s₁ s₂ s₃ : List (Slot L)) → y ≡ after_asks x (firsts n slots f) → s₁ ≡ picked o n t f x slots → s₂ ≡ adopt_from y s₁ → z ≡ after_ask y (plain (column n s₁ f)) → s₃ ≡ settle_from z s₂ → w ≡ after_ask z (plain (column n s₂ 0)) → (s₃ ≡ decided o n t f x slots) × (w ≡ after_asks x (asks o n t f x slots))
  unfolding asks
  ran y z w s₁ s₂ s₃ ey e₁ e₂ ez e₃ ew =
      let f₂ : s₂ ≡ estimated o n t f x slots = e₂ ∙ (ap (adopt_from y) e₁ ∙ adopted y ey) in
      let fz : z ≡ after_asks x (firsts n slots f ++ (send_picks ∷ [])) = ez ∙ (ap (λ s. after_ask y (plain (column n s f))) e₁ ∙ (ap (λ u. after_ask u send_picks) ey ∙ sym (after_snoc x (firsts n slots f) send_picks))) in (
        e₃ ∙ (ap (settle_from z) f₂ ∙ settled z fz),
        ew ∙ (ap (λ s. after_ask z (plain (column n s 0))) f₂ ∙ (ap (λ u. after_ask u send_estimates) fz ∙ (sym (after_snoc x (firsts n slots f ++ (send_picks ∷ [])) send_estimates) ∙ ap (after_asks x) (append_assoc (firsts n slots f) (send_picks ∷ []) (send_estimates ∷ []))))),
      )

-- the round after a plain exchange that is not refused
pub plain_round : {I : Type 0} (y z : Exchange I) (a : List (Option I)) → z ≡ after_ask y (plain a) → y.round + 1 ≤ last_round → z.round ≡ y.round + 1
plain_round y z a e l = ap (λ u. u.round) e ∙ cond-true (leb (y.round + 1) last_round) (y.round + 1) y.round (le-leb (y.round + 1) last_round l)

-- what goes on, and then goes on again, goes on
pub on_and_on : {L E : Type 0} {x : Ghosts E (Slip L)} (a b c : Run L E x) → GoesOn a b → GoesOn b c → GoesOn a c
on_and_on a b c h k = (k.0 ∙ h.0, k.1 ∙ h.1, k.2 ∙ h.2, k.3 ∙ h.3, k.4 ∙ h.4)
