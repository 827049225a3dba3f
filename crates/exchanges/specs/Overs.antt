-- What an exchange over a backplane keeps. Assumes nothing.
use Rattle.std.specs.Prelude.{◌≡◌, ℕ, ◌+◌, ◌*◌, ◌<◌, ◌≤◌, Bool, true, false, cond, leb, ◌⊎◌, List, [], ◌∷◌, ◌++◌, length, get_or, None, Option, nat_le, slice_index_or, refl}
use Rattle.std.proofs.Common.{sym, ap, subst, ◌∙◌}
use Rattle.std.proofs.lemmas.Bool.{cond-true, cond-false, le-leb, lt-leb, leb-true}
use Rattle.exchanges.specs.Boards.{fits, count, Sound}
use Rattle.exchanges.specs.Plane.{Plane, last_round}
use Rattle.exchanges.specs.Plane as planes
use Rattle.exchanges.specs.Exchange.{Ask, plain, firm, rounds, sent, round_on, round_after, after_ask, heard, Keeps, good, Few, Goes}
use Rattle.exchanges.specs.Over.{Way, run, next, after_all, over}
use Rattle.exchanges.specs.Frames.{Frame, frame_same, frame_then, sound_in, plain_frame, plain_round, plain_whole, plain_faithful, plain_delivers}

-- an exchange of x, of k rounds, with t faults, can begin at the backplane
pub record Begins {I : Type 0} (t k : ℕ) (b : Plane I) (x : List (Option I)) : Type 0 where
  pub fit : fits b.boards t ≡ true
  pub sized : length x ≡ b.boards
  pub timely : b.round + k ≤ last_round

-- the backplane keeps its meaning, and at most t of its boards are bad
pub record Bears {I : Type 0} (t : ℕ) (b : Plane I) : Type 0 where
  pub keeps : planes.Keeps b
  pub few : count b.bad b.boards ≤ t

-- what is owed of a way's firm exchange, at any backplane
pub record Well {I : Type 0} (w : Way I) : Type 0 where
  pub longer : 1 ≤ w.firm_rounds
  pub frame : (b : Plane I) (x : List (Option I)) → fits b.boards w.faults ≡ true → Frame b (w.firm_run b x).plane
  pub round : (b : Plane I) (x : List (Option I)) → fits b.boards w.faults ≡ true → b.round + w.firm_rounds ≤ last_round → (w.firm_run b x).plane.round ≡ b.round + w.firm_rounds
  pub whole : (b : Plane I) (x : List (Option I)) → Begins w.faults w.firm_rounds b x → length (w.firm_run b x).slots ≡ b.boards * b.boards
  pub faithful : (b : Plane I) (x : List (Option I)) → Begins w.faults w.firm_rounds b x → Bears w.faults b → (p q : ℕ) → Sound b.boards b.bad p → Sound b.boards b.bad q → (heard b.boards (w.firm_run b x).slots p q ≡ slice_index_or x q None) ⊎ (heard b.boards (w.firm_run b x).slots p q ≡ None)
  pub delivers : (b : Plane I) (x : List (Option I)) → Begins w.faults w.firm_rounds b x → Bears w.faults b → w.steady b.boards b.bad b.clear b.round ≡ true → (p q : ℕ) → Sound b.boards b.bad p → Sound b.boards b.bad q → heard b.boards (w.firm_run b x).slots p q ≡ slice_index_or x q None
  pub agrees : (b : Plane I) (x : List (Option I)) → Begins w.faults w.firm_rounds b x → Bears w.faults b → w.steady b.boards b.bad b.clear b.round ≡ true → (p p' q : ℕ) → Sound b.boards b.bad p → Sound b.boards b.bad p' → q < b.boards → heard b.boards (w.firm_run b x).slots p q ≡ heard b.boards (w.firm_run b x).slots p' q

module _ {I : Type 0} (w : Way I) (well : Well w) where
  pub run_frame : (b : Plane I) (a : Ask I) → fits b.boards w.faults ≡ true → Frame b (run w b a).plane
  run_frame b (plain x) f = plain_frame b x
  run_frame b (firm x) f = well.frame b x f

  pub run_round : (b : Plane I) (a : Ask I) → fits b.boards w.faults ≡ true → b.round + rounds w.firm_rounds a ≤ last_round → (run w b a).plane.round ≡ b.round + rounds w.firm_rounds a
  run_round b (plain x) f h = plain_round b x h
  run_round b (firm x) f h = well.round b x f h

  run_whole : (b : Plane I) (a : Ask I) → Begins w.faults (rounds w.firm_rounds a) b (sent a) → length (run w b a).slots ≡ b.boards * b.boards
  run_whole b (plain x) g = plain_whole b x
  run_whole b (firm x) g = well.whole b x g

  -- an exchange that is done leaves the one after it
  pub over_after : (b b' : Plane I) (a : Ask I) → fits b.boards w.faults ≡ true → b.round + rounds w.firm_rounds a ≤ last_round → b' ≡ (run w b a).plane → over w b' ≡ after_ask (over w b) a
  over_after b b' a f h e =
      let fr = run_frame b a f in
      let below : leb (b.round + rounds w.firm_rounds a) last_round ≡ true = le-leb _ _ h in
      let c = (run w b a).plane in
      let rd : c.round ≡ round_on w.firm_rounds b.round a = run_round b a f h ∙ sym (cond-true _ _ b.round below) in
      let nx : c ≡ next w b a = sym (cond-true _ c b below) in
      ap (over w) e ∙ (λ i. record {
        boards = fr.boards i;
        faults = w.faults;
        bad = fr.bad i;
        round = rd i;
        firm_rounds = w.firm_rounds;
        clear = λ r. fr.clear i (r + 1);
        steady = λ r. w.steady (fr.boards i) (fr.bad i) (fr.clear i) r;
        workspace = cond (fits (fr.boards i) w.faults) (w.workspace (fr.boards i)) 0;
        fills = λ l a'. (run w (after_all w (nx i) l) a').slots;
      })

  next_frame : (b : Plane I) (a : Ask I) → fits b.boards w.faults ≡ true → Frame b (next w b a)
  next_frame b a f = go (nat_le (b.round + rounds w.firm_rounds a) last_round)
    where
      go : (t : Bool) → Frame b (cond t (run w b a).plane b)
      go true = run_frame b a f
      go false = frame_same b

  next_round : (b : Plane I) (a : Ask I) → fits b.boards w.faults ≡ true → (next w b a).round ≡ round_on w.firm_rounds b.round a
  next_round b a f = go (nat_le (b.round + rounds w.firm_rounds a) last_round) refl
    where
      go : (t : Bool) → nat_le (b.round + rounds w.firm_rounds a) last_round ≡ t → (cond t (run w b a).plane b).round ≡ cond t (b.round + rounds w.firm_rounds a) b.round
      go true e = run_round b a f (leb-true _ _ e)
      go false e = refl

  still_fits : (b b' : Plane I) → Frame b b' → fits b.boards w.faults ≡ true → fits b'.boards w.faults ≡ true
  still_fits b b' fr f = ap (λ n. fits n w.faults) fr.boards ∙ f

  pub all_frame : (b : Plane I) (l : List (Ask I)) → fits b.boards w.faults ≡ true → Frame b (after_all w b l)
  all_frame b [] f = frame_same b
  all_frame b (a ∷ l) f =
      let fr = next_frame b a f in
      frame_then fr (all_frame (next w b a) l (still_fits b (next w b a) fr f))

  pub all_round : (b : Plane I) (l : List (Ask I)) → fits b.boards w.faults ≡ true → (after_all w b l).round ≡ round_after w.firm_rounds b.round l
  all_round b [] f = refl
  all_round b (a ∷ l) f =
      all_round (next w b a) l (still_fits b (next w b a) (next_frame b a f) f) ∙ ap (λ r. round_after w.firm_rounds r l) (next_round b a f)

  all_append : (b : Plane I) (l m : List (Ask I)) → after_all w b (l ++ m) ≡ after_all w (after_all w b l) m
  all_append b [] m = refl
  all_append b (a ∷ l) m = all_append (next w b a) l m

  run_faithful : (b : Plane I) (a : Ask I) → Begins w.faults (rounds w.firm_rounds a) b (sent a) → Bears w.faults b → (p q : ℕ) → Sound b.boards b.bad p → Sound b.boards b.bad q → (heard b.boards (run w b a).slots p q ≡ slice_index_or (sent a) q None) ⊎ (heard b.boards (run w b a).slots p q ≡ None)
  run_faithful b (plain x) g k p q sp sq = plain_faithful b x k.keeps p q sp sq
  run_faithful b (firm x) g k p q sp sq = well.faithful b x g k p q sp sq

  run_delivers : (b : Plane I) (a : Ask I) → Begins w.faults (rounds w.firm_rounds a) b (sent a) → Bears w.faults b → good (over w b) b.round a ≡ true → (p q : ℕ) → Sound b.boards b.bad p → Sound b.boards b.bad q → heard b.boards (run w b a).slots p q ≡ slice_index_or (sent a) q None
  run_delivers b (plain x) g k ok p q sp sq = plain_delivers b x k.keeps g.timely ok p q sp sq
  run_delivers b (firm x) g k ok p q sp sq = well.delivers b x g k ok p q sp sq

  good_in : (b c : Plane I) (a : Ask I) (r : ℕ) → Frame b c → c.round ≡ r → good (over w b) r a ≡ true → good (over w c) c.round a ≡ true
  good_in b c (plain x) r fr e g = (λ i. fr.clear i (e i + 1)) ∙ g
  good_in b c (firm x) r fr e g = (λ i. w.steady (fr.boards i) (fr.bad i) (fr.clear i) (e i)) ∙ g

  -- what is asked for after the listed exchanges begins at the backplane that they leave
  begins : (b : Plane I) (l : List (Ask I)) (a : Ask I) → Goes (over w b) l a → Begins w.faults (rounds w.firm_rounds a) (after_all w b l) (sent a)
  begins b l a g =
      let fr = all_frame b l g.fit in
      record {
        fit = still_fits b (after_all w b l) fr g.fit;
        sized = g.sized ∙ sym fr.boards;
        timely = subst (λ r. r + rounds w.firm_rounds a ≤ last_round) (sym (all_round b l g.fit)) g.timely;
      }

  bears : (b c : Plane I) → Frame b c → planes.Keeps b → Few (over w b) → Bears w.faults c
  bears b c fr k few = record {
    keeps = fr.keeps k;
    few = subst (λ n. n ≤ w.faults) (λ i. count (sym fr.bad i) (sym fr.boards i)) few;
  }

  pub over_keeps : (b : Plane I) → planes.Keeps b → Keeps (over w b)
  over_keeps b k = record {
    longer = well.longer;
    whole = λ l a g.
        let fr = all_frame b l g.fit in
        run_whole (after_all w b l) a (begins b l a g) ∙ ap (λ n. n * n) fr.boards;
    stays = λ f l m a a' h.
        let c = after_all w b l in
        let past : last_round < c.round + rounds w.firm_rounds a = subst (λ r. last_round < r + rounds w.firm_rounds a) (sym (all_round b l f)) h in
        let same : next w c a ≡ c = cond-false _ (run w c a).plane c (lt-leb _ _ past) in
        ap (λ d. (run w d a').slots) (all_append b l (a ∷ m) ∙ ap (λ d. after_all w d m) same ∙ sym (all_append b l m));
    faithful = λ few l a g p q sp sq.
        let c = after_all w b l in
        let fr = all_frame b l g.fit in
        let P : ℕ → Type 0 = λ n. (heard n (run w c a).slots p q ≡ slice_index_or (sent a) q None) ⊎ (heard n (run w c a).slots p q ≡ None) in
        subst P fr.boards (run_faithful c a (begins b l a g) (bears b c fr k few) p q (sound_in fr sp) (sound_in fr sq));
    delivers = λ few l a g ok p q sp sq.
        let c = after_all w b l in
        let fr = all_frame b l g.fit in
        let P : ℕ → Type 0 = λ n. heard n (run w c a).slots p q ≡ get_or (sent a) q None in
        subst P fr.boards (run_delivers c a (begins b l a g) (bears b c fr k few) (good_in b c a _ fr (all_round b l g.fit) ok) p q (sound_in fr sp) (sound_in fr sq));
    agrees = λ few l s g ok p p' q sp sp' qn.
        let c = after_all w b l in
        let fr = all_frame b l g.fit in
        let P : ℕ → Type 0 = λ n. heard n (w.firm_run c s).slots p q ≡ heard n (w.firm_run c s).slots p' q in
        subst P fr.boards (well.agrees c s (begins b l (firm s) g) (bears b c fr k few) (good_in b c (firm s) _ fr (all_round b l g.fit) ok) p p' q (sound_in fr sp) (sound_in fr sp') (subst (λ n. q < n) (sym fr.boards) qn));
  }
