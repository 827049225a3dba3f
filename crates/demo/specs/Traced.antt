-- A layer that only looks on: it means what the backplane below means.
use Rattle.exchanges.specs.Plane.{Plane}
use Rattle.demo.specs.declared.traced.Traced.{Traced}

abbrev pub traced_plane : {I B : Type 0} → (B → Plane I) → Traced B I → Plane I
traced_plane plane b = plane b.below
