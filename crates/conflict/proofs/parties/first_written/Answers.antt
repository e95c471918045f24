use Rattle.std.proofs.Common.{arith}
use Rattle.conflict.specs.Tracked.{edge, node}
use Rattle.conflict.specs.Walks.{is_unseen}
use Rattle.conflict.proofs.Found.{first_next}
use Rattle.conflict.proofs.parties.first_written.Goals as goal

pub loop-writer-preserved : goal.loop-writer-preserved
loop-writer-preserved g c = first_next node edge (is_unseen c.args.reader.now) c.args.numbers.now c.loop-writer.writer-index c.args.parties.now c.loop-writer.first c.out_with-first.result (omega arith) c.loop-writer.invariant c.out_with-first.ensures
