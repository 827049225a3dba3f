-- Only a label's own bytes read as that label.
use Rattle.std.specs.Prelude.{◌≡◌, ℕ, ◌^◌, ◌<◌, ◌≤◌, Bool, true, false, cond, List, ◌++◌, length, take, drop, Some, None, Option, ◌==◌, refl}
use Rattle.std.proofs.Common.{ap, sym, ◌∙◌, arith, take-append-drop, length-drop, eqb-true}
use Rattle.std.proofs.Math.Decide.{dec_lt}
use Rattle.std.proofs.lemmas.List.{take_all}
use Rattle.labels.specs.Bytes.{four_bytes}
use Rattle.labels.specs.Coding.{Own}
use Rattle.labels.specs.Kinds.{frame_if, stamp_if, frame_of, stamp_of, number_at, frame_coding, stamp_coding}
use Rattle.labels.specs.declared.frame_number.FrameNumber.{FrameNumber}
use Rattle.labels.specs.declared.trigger_stamp.TriggerStamp.{TriggerStamp}
use Rattle.labels.specs.Fours.{four_back, four_taken}
use Rattle.labels.specs.Orders.{same_frame, same_stamp}

-- the frame of a number that is its own
pub frame_is : (n : ℕ) (f : FrameNumber) → n ≡ f.number → frame_of n ≡ Some f
frame_is n f e = go (dec_lt n (2 ^ 32))
  where
    go : (d : Dec (n < 2 ^ 32)) → frame_if n d ≡ Some f
    go (yes h) = ap Some (same_frame (record { number = n; fits = h }) f e)
    go (no h) = absurd (h (omega (arith, f.fits)))

frame_was : (n : ℕ) (f : FrameNumber) (d : Dec (n < 2 ^ 32)) → frame_if n d ≡ Some f → n ≡ f.number
frame_was n f (yes h) e = let s : ◌≡◌ {A = FrameNumber} (record { number = n; fits = h }) f = cc in ap (λ z. z.number) s
frame_was n f (no h) e = absurd (cc)

pub stamp_is : (m n : ℕ) (s : TriggerStamp) → m ≡ s.seconds → n ≡ s.ticks → stamp_of m n ≡ Some s
stamp_is m n s e f = go (dec_lt m (2 ^ 32)) (dec_lt n 100000000)
  where
    go : (d : Dec (m < 2 ^ 32)) (k : Dec (n < 100000000)) → stamp_if m n d k ≡ Some s
    go (yes h) (yes k) = ap Some (same_stamp (record { seconds = m; ticks = n; fits = h; below = k }) s e f)
    go (yes h) (no k) = absurd (k (omega (arith, s.below)))
    go (no h) k = absurd (h (omega (arith, s.fits)))

stamp_was : (m n : ℕ) (s : TriggerStamp) (d : Dec (m < 2 ^ 32)) (k : Dec (n < 100000000)) → stamp_if m n d k ≡ Some s → (m ≡ s.seconds) × (n ≡ s.ticks)
stamp_was m n s (yes h) (yes k) e =
    let t : ◌≡◌ {A = TriggerStamp} (record { seconds = m; ticks = n; fits = h; below = k }) s = cc in
    (ap (λ z. z.seconds) t, ap (λ z. z.ticks) t)
stamp_was m n s (yes h) (no k) e = absurd (cc)
stamp_was m n s (no h) k e = absurd (cc)

-- too many ticks are no stamp's
pub stamp_none : (m n : ℕ) → 100000000 ≤ n → stamp_of m n ≡ None
stamp_none m n l = go (dec_lt m (2 ^ 32)) (dec_lt n 100000000)
  where
    go : (d : Dec (m < 2 ^ 32)) (k : Dec (n < 100000000)) → stamp_if m n d k ≡ None
    go (yes h) (yes k) = absurd (omega arith)
    go (yes h) (no k) = refl
    go (no h) k = refl

-- what is read only of so many bytes
only_at : {A : Type 0} (t : Bool) (x : Option A) (a : A) → cond t x None ≡ Some a → (t ≡ true) × (x ≡ Some a)
only_at true x a e = (refl, e)
only_at false x a e = absurd (cc)

pub frame_own : Own frame_coding
frame_own = record {
  some = omega arith;
  wide = λ f. refl;
  back = λ f. frame_is _ f (four_back f.number f.fits);
  only = λ b f k e.
      let h = only_at (length b == 4) (frame_of (number_at b 0)) f e in
      let long : length b ≡ 4 = eqb-true _ _ h.0 in
      let n : number_at b 0 ≡ f.number = frame_was _ f (dec_lt (number_at b 0) (2 ^ 32)) h.1 in
      ap four_bytes (sym n) ∙ four_taken b 0 k (omega arith) ∙ take_all 4 b (omega arith);
}

halves : (b : List ℕ) → length b ≡ 8 → take 4 (drop 0 b) ++ take 4 (drop 4 b) ≡ b
halves b e = ap (λ l. take 4 b ++ l) (take_all 4 (drop 4 b) (simp length-drop (omega arith))) ∙ take-append-drop 4 b

pub stamp_own : Own stamp_coding
stamp_own = record {
  some = omega arith;
  wide = λ s. refl;
  back = λ s.
      let t : s.ticks < 2 ^ 32 = omega (arith, s.below) in
      stamp_is _ _ s (four_back s.seconds s.fits) (four_back s.ticks t);
  only = λ b s k e.
      let h = only_at (length b == 8) (stamp_of (number_at b 0) (number_at b 4)) s e in
      let long : length b ≡ 8 = eqb-true _ _ h.0 in
      let n = stamp_was _ _ s (dec_lt (number_at b 0) (2 ^ 32)) (dec_lt (number_at b 4) 100000000) h.1 in
      let front : four_bytes s.seconds ≡ take 4 (drop 0 b) = ap four_bytes (sym n.0) ∙ four_taken b 0 k (omega arith) in
      let rest : four_bytes s.ticks ≡ take 4 (drop 4 b) = ap four_bytes (sym n.1) ∙ four_taken b 4 k (omega arith) in
      ap (λ l. l ++ four_bytes s.ticks) front ∙ ap (λ l. take 4 (drop 0 b) ++ l) rest ∙ halves b long;
}
