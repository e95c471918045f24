use Rattle.std.proofs.Common.{arith, length}
use Rattle.transactions.proofs.ListedLemmas.{merged-listed}
use Rattle.transactions.proofs.statements.own.merge_list.Goals as goal

pub returns-clause-merged : goal.returns-clause-merged
returns-clause-merged g c = merged-listed c.in-Some.changes c.args.list.now (length c.args.list.now) (rw c.in-Some.is at c.in_ok-made.ensures.ok) (omega arith) (c.are_by_key.ensures c.if-not-are_by_key.false)
