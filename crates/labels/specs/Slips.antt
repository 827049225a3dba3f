-- What the test for sameness of slips tells.
use Rattle.std.proofs.Common.{rules}
use Rattle.std.specs.declared.cmp.Ordering.{Ordering}
use Rattle.labels.specs.Item.{Tells}
use Rattle.labels.specs.Order.{Total}
use Rattle.labels.specs.Slip.{same_slip}

pub slips_tell : {L : Type 0} {order : L → L → Ordering} → Total order → Tells (same_slip order)
slips_tell t = record { equal = λ x y e. search rules; itself = λ x. search rules }
