-- When two slips are the same.
use Rattle.std.specs.Prelude.{Bool, ◌&&◌, ◌==◌}
use Rattle.std.specs.declared.cmp.Ordering.{Ordering}
use Rattle.std.specs.Ordering.{is_eq}
use Rattle.labels.specs.declared.slip.Slip.{Slip}

-- label and phase number both are
abbrev pub same_slip : {L : Type 0} → (L → L → Ordering) → Slip L → Slip L → Bool
same_slip order a b = is_eq (order a.label b.label) && a.phase == b.phase
