-- What calls on a backplane leave as it was. Assumes nothing.
use Rattle.std.specs.Prelude.{◌≡◌, ℕ, zero, suc, ◌+◌, ◌*◌, ◌<◌, ◌≤◌, true, ◌⊎◌, List, [], ◌∷◌, length, replicate, None, Option, slice_index_or, refl}
use Rattle.std.proofs.Common.{sym, ap, subst, ◌∙◌, arith}
use Rattle.std.proofs.lemmas.Nat.{mul-add-lt}
use Rattle.std.proofs.lemmas.List.{length-replicate}
use Rattle.std.proofs.lemmas.Bool.{cond-true, lt-ltb}
use Rattle.exchanges.specs.Boards.{Sound}
use Rattle.exchanges.specs.Plane.{Plane, Call, turn, carry, after, Keeps, round_after, last_round}
use Rattle.exchanges.specs.Plain.{Heard, to_each, from_each, plain_run}
use Rattle.exchanges.specs.Ran.{heard_at}
use Rattle.exchanges.specs.Exchange.{heard}
use Rattle.exchanges.specs.Places.{plane_at, from_at, from_length}

-- b' has the boards and clear rounds of b, and the laws
pub record Frame {I : Type 0} (b b' : Plane I) : Type 0 where
  pub boards : b'.boards ≡ b.boards
  pub bad : b'.bad ≡ b.bad
  pub clear : b'.clear ≡ b.clear
  pub keeps : Keeps b → Keeps b'

pub frame_same : {I : Type 0} (b : Plane I) → Frame b b
frame_same b = record { boards = refl; bad = refl; clear = refl; keeps = λ k. k }

pub frame_then : {I : Type 0} {a b c : Plane I} → Frame a b → Frame b c → Frame a c
frame_then f g = record {
  boards = g.boards ∙ f.boards;
  bad = g.bad ∙ f.bad;
  clear = g.clear ∙ f.clear;
  keeps = λ k. g.keeps (f.keeps k);
}

round_then : {I : Type 0} (r : ℕ) (c : Call I) (l : List (Call I)) → round_after (round_after r (c ∷ [])) l ≡ round_after r (c ∷ l)
round_then r turn l = refl
round_then r (carry s d x) l = refl

pub frame_call : {I : Type 0} (b : Plane I) (c : Call I) → Frame b (after b c)
frame_call b c = record {
  boards = refl;
  bad = refl;
  clear = refl;
  keeps = λ k. record {
    faithful = λ l s d x p. k.faithful (c ∷ l) s d x p;
    clears = λ l s d x p q h. k.clears (c ∷ l) s d x p q (ap b.clear (sym (round_then b.round c l)) ∙ h);
    no_sender = λ l s d x h. k.no_sender (c ∷ l) s d x h;
    no_receiver = λ l s d x h. k.no_receiver (c ∷ l) s d x h;
    stays = λ l m s d x h. k.stays (c ∷ l) m s d x (subst (λ r. last_round ≤ r) (round_then b.round c l) h);
  };
}

pub sound_in : {I : Type 0} {b b' : Plane I} {p : ℕ} → Frame b b' → Sound b.boards b.bad p → Sound b'.boards b'.bad p
sound_in {p = p} f s = (subst (λ n. p < n) (sym f.boards) s.0, ap (λ bad. bad p) f.bad ∙ s.1)

module _ {I : Type 0} (n : ℕ) where
  pub to_frame : (x : Option I) (s : ℕ) (h : Heard I) (d : ℕ) → Frame h.plane (to_each n x s h d).plane
  to_frame x s h zero = frame_same h.plane
  to_frame x s h (suc d) = frame_then (to_frame x s h d) (frame_call (to_each n x s h d).plane (carry s d x))

  pub to_round : (x : Option I) (s : ℕ) (h : Heard I) (d : ℕ) → (to_each n x s h d).plane.round ≡ h.plane.round
  to_round x s h zero = refl
  to_round x s h (suc d) = to_round x s h d

  pub from_frame : (xs : List (Option I)) (h : Heard I) (k : ℕ) → Frame h.plane (from_each n xs h k).plane
  from_frame xs h zero = frame_same h.plane
  from_frame xs h (suc k) = frame_then (from_frame xs h k) (to_frame (slice_index_or xs k None) k (from_each n xs h k) n)

  pub from_round : (xs : List (Option I)) (h : Heard I) (k : ℕ) → (from_each n xs h k).plane.round ≡ h.plane.round
  from_round xs h zero = refl
  from_round xs h (suc k) = to_round (slice_index_or xs k None) k (from_each n xs h k) n ∙ from_round xs h k

module _ {I : Type 0} (b : Plane I) (x : List (Option I)) where
  abbrev start : Heard I
  start = heard_at (after b turn) (replicate (b.boards * b.boards) None)

  pub plain_frame : Frame b (plain_run b x).plane
  plain_frame = frame_then (frame_call b turn) (from_frame b.boards x start b.boards)

  pub plain_round : b.round + 1 ≤ last_round → (plain_run b x).plane.round ≡ b.round + 1
  plain_round h =
      from_round b.boards x start b.boards ∙ cond-true _ (b.round + 1) b.round (lt-ltb b.round last_round (omega arith))

  pub plain_whole : length (plain_run b x).slots ≡ b.boards * b.boards
  plain_whole = from_length b.boards x start b.boards ∙ length-replicate (b.boards * b.boards) None

  -- the backplane as q sends to p
  abbrev then_at : ℕ → ℕ → Plane I
  then_at q p = plane_at b.boards x start q p

  at_frame : (q p : ℕ) → Frame b (then_at q p)
  at_frame q p =
      frame_then (frame_call b turn) (frame_then (from_frame b.boards x start q) (to_frame b.boards (slice_index_or x q None) q (from_each b.boards x start q) p))

  plain_heard : (p q : ℕ) → p < b.boards → q < b.boards → heard b.boards (plain_run b x).slots p q ≡ (then_at q p).answer [] q p (slice_index_or x q None)
  plain_heard p q pn qn =
      let within = mul-add-lt p b.boards q b.boards pn qn in
      let long : length start.slots ≡ b.boards * b.boards = length-replicate (b.boards * b.boards) None in
      from_at b.boards x start b.boards p q (omega arith) pn qn (omega arith)

  pub plain_faithful : Keeps b → (p q : ℕ) → Sound b.boards b.bad p → Sound b.boards b.bad q → (heard b.boards (plain_run b x).slots p q ≡ slice_index_or x q None) ⊎ (heard b.boards (plain_run b x).slots p q ≡ None)
  plain_faithful k p q sp sq =
      let f = at_frame q p in
      subst (λ y. (y ≡ slice_index_or x q None) ⊎ (y ≡ None)) (sym (plain_heard p q sp.0 sq.0)) ((f.keeps k).faithful [] q p (slice_index_or x q None) (sound_in f sq))

  pub plain_delivers : Keeps b → b.round + 1 ≤ last_round → b.clear (b.round + 1) ≡ true → (p q : ℕ) → Sound b.boards b.bad p → Sound b.boards b.bad q → heard b.boards (plain_run b x).slots p q ≡ slice_index_or x q None
  plain_delivers k h c p q sp sq =
      let f = at_frame q p in
      let e : (then_at q p).round ≡ b.round + 1 = to_round b.boards (slice_index_or x q None) q (from_each b.boards x start q) p ∙ from_round b.boards x start q ∙ cond-true _ (b.round + 1) b.round (lt-ltb b.round last_round (omega arith)) in
      plain_heard p q sp.0 sq.0 ∙ (f.keeps k).clears [] q p (slice_index_or x q None) (sound_in f sq) (sound_in f sp) (ap (λ g. g (then_at q p).round) f.clear ∙ ap b.clear e ∙ c)
