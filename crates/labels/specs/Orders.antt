-- The two kinds are totally ordered.
use mathlib.Core.HLevel.{is_prop→PathP}
use Rattle.std.specs.Prelude.{◌≡◌, ℕ, ◌^◌, ◌<◌, refl}
use Rattle.std.specs.declared.cmp.Ordering.TheVariants.{Less, Equal, Greater}
use Rattle.std.specs.declared.cmp.Ordering.{Ordering}
use Rattle.std.proofs.Common.{ap, ◌∙◌, arith}
use Rattle.std.proofs.Math.Bridge.{le_prop}
use Rattle.std.proofs.lemmas.Bool.Decides.{nat_tests}
use Rattle.std.specs.Ordering.{nat_cmp, ordering_then, ordering_reverse}
use Rattle.labels.specs.Kinds.{by_number, frame_order, stamp_order}
use Rattle.labels.specs.Order.{Total}
use Rattle.labels.specs.declared.frame_number.FrameNumber.{FrameNumber}
use Rattle.labels.specs.declared.trigger_stamp.TriggerStamp.{TriggerStamp}

number_total : Total by_number
number_total = record {
  itself = λ a. grind (arith, nat_tests);
  same = λ a b e. grind (arith, nat_tests);
  turned = λ a b. grind (arith, nat_tests);
  through = λ a b c e f. grind (arith, nat_tests);
}

-- numbers are compared by what they are
number_compares : (a b : ℕ) → nat_cmp a b ≡ by_number a b
number_compares a b = grind (arith, nat_tests)

pub frame_compares : (a b : FrameNumber) → nat_cmp a.number b.number ≡ frame_order a b
frame_compares a b = number_compares a.number b.number

pub stamp_compares : (a b : TriggerStamp) → ordering_then (nat_cmp a.seconds b.seconds) (nat_cmp a.ticks b.ticks) ≡ stamp_order a b
stamp_compares a b i = ordering_then (number_compares a.seconds b.seconds i) (number_compares a.ticks b.ticks i)

pub same_frame : (a b : FrameNumber) → a.number ≡ b.number → a ≡ b
same_frame a b h i = record { number = h i; fits = is_prop→PathP (λ j. h j < 2 ^ 32) (λ j. le_prop) a.fits b.fits i }

pub frame_total : Total frame_order
frame_total = record {
  itself = λ a. number_total.itself a.number;
  same = λ a b e. same_frame a b (number_total.same a.number b.number e);
  turned = λ a b. number_total.turned a.number b.number;
  through = λ a b c. number_total.through a.number b.number c.number;
}

pub same_stamp : (a b : TriggerStamp) → a.seconds ≡ b.seconds → a.ticks ≡ b.ticks → a ≡ b
same_stamp a b h k i = record {
  seconds = h i;
  ticks = k i;
  fits = is_prop→PathP (λ j. h j < 2 ^ 32) (λ j. le_prop) a.fits b.fits i;
  below = is_prop→PathP (λ j. k j < 100000000) (λ j. le_prop) a.below b.below i;
}

both_equal : (o p : Ordering) → ordering_then o p ≡ Equal → (o ≡ Equal) × (p ≡ Equal)
both_equal Less p e = absurd (cc)
both_equal Equal p e = (refl, e)
both_equal Greater p e = absurd (cc)

turned_then : (o p : Ordering) → ordering_then (ordering_reverse o) (ordering_reverse p) ≡ ordering_reverse (ordering_then o p)
turned_then Less p = refl
turned_then Equal p = refl
turned_then Greater p = refl

through_then : (a b c p q r : ℕ) → ordering_then (by_number a b) (by_number p q) ≡ Less → ordering_then (by_number b c) (by_number q r) ≡ Less → ordering_then (by_number a c) (by_number p r) ≡ Less
through_then a b c p q r e f = grind (arith, nat_tests)

pub stamp_total : Total stamp_order
stamp_total = record {
  itself = λ a. ap (λ o. ordering_then o (by_number a.ticks a.ticks)) (number_total.itself a.seconds) ∙ number_total.itself a.ticks;
  same = λ a b e.
      let h = both_equal (by_number a.seconds b.seconds) (by_number a.ticks b.ticks) e in
      same_stamp a b (number_total.same a.seconds b.seconds h.0) (number_total.same a.ticks b.ticks h.1);
  turned = λ a b.
      ap (λ o. ordering_then o (by_number b.ticks a.ticks)) (number_total.turned a.seconds b.seconds) ∙ ap (ordering_then (ordering_reverse (by_number a.seconds b.seconds))) (number_total.turned a.ticks b.ticks) ∙ turned_then (by_number a.seconds b.seconds) (by_number a.ticks b.ticks);
  through = λ a b c. through_then a.seconds b.seconds c.seconds a.ticks b.ticks c.ticks;
}
