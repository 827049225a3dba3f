-- A layer that only looks on: it means what the exchange below means.
use Rattle.exchanges.specs.Exchange.{Exchange}
use Rattle.demo.specs.declared.watched.Watched.{Watched}

abbrev pub watched_meaning : {I X : Type 0} → (X → Exchange I) → Watched X I → Exchange I
watched_meaning meaning x = meaning x.below
