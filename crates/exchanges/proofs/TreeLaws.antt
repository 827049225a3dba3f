-- The laws of the tree exchange. Assumes nothing.
use Rattle.exchanges.specs.TreeLaws.{TreeLaws}
use Rattle.exchanges.specs.Keep.{trees_keep, enough_boards}
use Rattle.exchanges.proofs.Stand.{own_places}
use Rattle.exchanges.specs.Reduce.{reduces}

pub tree_laws : {I : Type 0} → TreeLaws I
tree_laws = record { keep = trees_keep; places = own_places; reduces = λ same tells n t k f. reduces same tells n t k (enough_boards n t f) }
