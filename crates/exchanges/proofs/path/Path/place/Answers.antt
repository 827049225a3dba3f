use Rattle.std.proofs.Common.{ap, arith}
use Rattle.exchanges.specs.Trees.{start}
use Rattle.exchanges.proofs.Trail.{length_trail, index_small}
use Rattle.exchanges.proofs.path.Path.place.Goals as goal

pub overflow_add-result : goal.overflow_add-result
overflow_add-result c = omega (arith, index_small c.args.self)

pub returns : goal.returns
returns c = omega (arith, ap (start c.args.self.shape.n) (length_trail c.args.self.boards c.args.self.len))
