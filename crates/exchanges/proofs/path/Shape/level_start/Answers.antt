use Rattle.std.proofs.Common.{arith}
use Rattle.exchanges.proofs.Table.{level_rule}
use Rattle.exchanges.proofs.path.Shape.level_start.Goals as goal

pub returns-clause-value : goal.returns-clause-value
returns-clause-value c = level_rule c.args.self.n c.args.k (omega arith) c.args.self.few c.requires.0 c.requires.1
