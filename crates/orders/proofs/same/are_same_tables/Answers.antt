use Rattle.std.proofs.Common.{arith}
use Rattle.orders.proofs.SeenLemmas.{tables-same}
use Rattle.orders.proofs.same.are_same_tables.Goals as goal

pub returns-clause-ok : goal.returns-clause-ok
returns-clause-ok g c = λ _. tables-same c.args.left.now c.args.right.now (omega arith) (λ t l. c.loop-place.invariant t (omega (arith, l)))
