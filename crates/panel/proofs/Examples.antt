-- The cases settled by hand.
use Rattle.std.proofs.Common.{refl}
use Rattle.panel.specs.Phase.{choice}
use Rattle.panel.specs.Worked.{Worked}

pub right : Worked
unfolding choice
right = (refl, (refl, (refl, (refl, (refl, (refl, (refl, (refl, (refl, (refl, (refl, (refl, (refl, tt)))))))))))))
