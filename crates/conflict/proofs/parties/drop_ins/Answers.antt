use Rattle.std.proofs.Common.{arith, get_or}
use Rattle.conflict.proofs.Places.{none_unread, sorted_kept, unread_next}
use Rattle.conflict.proofs.parties.drop_ins.Goals as goal

pub loop-writer-init : goal.loop-writer-init
loop-writer-init g c = (none_unread c.args.reader c.args.parties.now.items, c.requires)

pub loop-writer-preserved : goal.loop-writer-preserved
loop-writer-preserved g c = (
  unread_next c.args.reader c.args.writers.now c.loop-writer.writer-index c.args.parties.now.items c.loop-writer.parties.items c.drop_in.new.parties.items (omega arith) c.loop-writer.invariant.0 c.drop_in.ensures,
  sorted_kept c.loop-writer.parties.items c.drop_in.new.parties.items c.args.reader (get_or c.args.writers.now c.loop-writer.writer-index 0) c.loop-writer.invariant.1 c.drop_in.ensures,
)
