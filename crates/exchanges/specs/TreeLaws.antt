-- What is known of the tree exchange, apart from how it goes.
use Rattle.exchanges.specs.Trees.{TreesKeep, OwnPlaces}
use Rattle.exchanges.specs.Reduction.{ReducesRightly}

pub record TreeLaws (I : Type 0) : Type 0 where
  -- over every backplane that keeps its meaning, it keeps an exchange's
  pub keep : TreesKeep I
  -- each path of a tree has a place of its own
  pub places : OwnPlaces
  -- a path gets the item that enough of its children hold, or else silence
  pub reduces : ReducesRightly I
