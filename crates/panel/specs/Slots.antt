-- Slots, and the tests on them. Labels are compared by `o`.
use Rattle.std.specs.Prelude.{ℕ, Bool, false, ◌&&◌, Some, None, Option, ◌==◌}
use Rattle.std.specs.declared.cmp.Ordering.{Ordering}
use Rattle.std.specs.Option.{option_or}
use Rattle.std.specs.Ordering.{is_eq, is_lt}
use Rattle.labels.specs.declared.slip.Slip.{Slip}

-- a slip, or silence
abbrev pub Slot : Type 0 → Type 0
Slot L = Option (Slip L)

abbrev pub Comparison : Type 0 → Type 0
Comparison L = L → L → Ordering

abbrev pub same : {L : Type 0} → Comparison L → L → L → Bool
same o a b = is_eq (o a b)

abbrev pub smaller : {L : Type 0} → Comparison L → L → L → Bool
smaller o a b = is_lt (o a b)

abbrev pub has_label : {L : Type 0} → Comparison L → L → Slot L → Bool
has_label o v None = false
has_label o v (Some s) = same o v s.label

-- whether a slot holds just this label with just this number
abbrev pub is_slip : {L : Type 0} → Comparison L → L → ℕ → Slot L → Bool
is_slip o v c None = false
is_slip o v c (Some s) = same o v s.label && s.phase == c

abbrev pub with_phase : {L : Type 0} → ℕ → Option L → Slot L
with_phase f None = None
with_phase f (Some v) = Some (record { label = v; phase = f })

abbrev pub label_of : {L : Type 0} → Slot L → Option L
label_of None = None
label_of (Some s) = Some s.label

-- the first slot, or the second where the first is silent
abbrev pub or_else : {L : Type 0} → Slot L → Slot L → Slot L
or_else a b = option_or a b
