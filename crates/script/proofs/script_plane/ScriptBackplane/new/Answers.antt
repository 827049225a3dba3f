use Rattle.std.proofs.Common.{arith}
use Rattle.script.proofs.Obeying.{obeys_as}
use Rattle.script.proofs.script_plane.ScriptBackplane.new.Goals as goal

pub returns-clause-obeys : goal.returns-clause-obeys
returns-clause-obeys g c = obeys_as _ _ _ _ 0 _ (grind arith)
