use Rattle.std.proofs.Common.{arith}
use Rattle.value.specs.Isolation.{edge_of}
use Rattle.conflict.specs.Tracked.{node_after, reads}
use Rattle.conflict.specs.Walks.{is_last}
use Rattle.conflict.proofs.Found.{first_next}
use Rattle.conflict.proofs.cause.last_among.Goals as goal

pub loop-writer-preserved : goal.loop-writer-preserved
loop-writer-preserved g c =
    first_next (node_after c.args.commit.txn c.args.commit.number) (edge_of (node_after c.args.commit.txn c.args.commit.number) reads) (is_last c.args.commit.txn c.args.commit.number c.args.pivot.now)
    c.args.numbers.now c.loop-writer.writer-index c.args.parties.now c.loop-writer.last c.last_with-last.result (omega arith) c.loop-writer.invariant c.last_with-last.ensures
