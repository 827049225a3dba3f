-- A test for sameness.
use Rattle.std.specs.Prelude.{◌≡◌, Bool, true}

-- it answers true just where both are the same
pub record Tells {I : Type 0} (same : I → I → Bool) : Type 0 where
  pub equal : (x y : I) → same x y ≡ true → x ≡ y
  pub itself : (x : I) → same x x ≡ true
