use Rattle.exchanges.proofs.path.Path.+at.Given as goal

abbrev pub decreases-at : goal.decreases-at
decreases-at l = l.len
