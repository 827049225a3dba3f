-- The two kinds of labels: how each is ordered and how it stands in bytes.
use Rattle.std.specs.Prelude.{ℕ, ◌+◌, ◌/◌, ◌%◌, ◌^◌, ◌<◌, cond, List, [], ◌∷◌, ◌++◌, map, length, Some, None, codes, decimal, Option, ◌==◌, nat_lt, slice_index}
use Rattle.std.specs.declared.cmp.Ordering.TheVariants.{Less, Equal, Greater}
use Rattle.std.specs.declared.cmp.Ordering.{Ordering}
use Rattle.std.proofs.Math.Decide.{dec_lt}
use Rattle.std.specs.Ordering.{ordering_then}
use Rattle.labels.specs.Bytes.{four_bytes, from_four}
use Rattle.labels.specs.Coding.{Coding}
use Rattle.labels.specs.declared.frame_number.FrameNumber.{FrameNumber}
use Rattle.labels.specs.declared.trigger_stamp.TriggerStamp.{TriggerStamp}

-- how two numbers stand to each other
abbrev pub by_number : ℕ → ℕ → Ordering
by_number a b = cond (nat_lt a b) Less (cond (nat_lt b a) Greater Equal)

abbrev pub frame_order : FrameNumber → FrameNumber → Ordering
frame_order a b = by_number a.number b.number

-- by seconds, and then by ticks
abbrev pub stamp_order : TriggerStamp → TriggerStamp → Ordering
stamp_order a b = ordering_then (by_number a.seconds b.seconds) (by_number a.ticks b.ticks)

-- the frame number n, if n has 32 bits
abbrev pub frame_if : (n : ℕ) → Dec (n < 2 ^ 32) → Option FrameNumber
frame_if n (yes h) = Some (record { number = n; fits = h })
frame_if n (no h) = None

-- the stamp of s seconds and t ticks, if s has 32 bits and t is below 100,000,000
abbrev pub stamp_if : (s t : ℕ) → Dec (s < 2 ^ 32) → Dec (t < 100000000) → Option TriggerStamp
stamp_if s t (yes h) (yes k) = Some (record { seconds = s; ticks = t; fits = h; below = k })
stamp_if s t (yes h) (no k) = None
stamp_if s t (no h) k = None

abbrev pub frame_of : ℕ → Option FrameNumber
frame_of n = frame_if n (dec_lt n (2 ^ 32))

abbrev pub stamp_of : ℕ → ℕ → Option TriggerStamp
stamp_of s t = stamp_if s t (dec_lt s (2 ^ 32)) (dec_lt t 100000000)

-- the number in the four bytes from place i on
abbrev pub number_at : List ℕ → ℕ → ℕ
number_at b i = from_four (slice_index b i) (slice_index b (i + 1)) (slice_index b (i + 2)) (slice_index b (i + 3))

-- kind 1: a number of 32 bits, in four bytes
abbrev pub frame_coding : Coding FrameNumber
frame_coding = record {
  kind = 1;
  width = 4;
  write = λ f. four_bytes f.number;
  read = λ b. cond (length b == 4) (frame_of (number_at b 0)) None;
}

-- kind 2: seconds and then ticks, in four bytes each
abbrev pub stamp_coding : Coding TriggerStamp
stamp_coding = record {
  kind = 2;
  width = 8;
  write = λ s. four_bytes s.seconds ++ four_bytes s.ticks;
  read = λ b. cond (length b == 8) (stamp_of (number_at b 0) (number_at b 4)) None;
}

-- a frame number is printed in decimal
abbrev pub frame_text : FrameNumber → List ℕ
frame_text f = decimal f.number

-- digit k of a number from the right, as a character
abbrev pub digit : ℕ → ℕ → ℕ
digit n k = 48 + n / 10 ^ k % 10

-- a stamp is printed as seconds, a point and eight digits
abbrev pub time_text : ℕ → ℕ → List ℕ
time_text s t = decimal s ++ (codes "." ++ map (digit t) (7 ∷ 6 ∷ 5 ∷ 4 ∷ 3 ∷ 2 ∷ 1 ∷ 0 ∷ []))

abbrev pub stamp_text : TriggerStamp → List ℕ
stamp_text s = time_text s.seconds s.ticks
