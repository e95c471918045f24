use Rattle.std.proofs.Common.{arith, get_or}
use Rattle.conflict.proofs.Places.{none_unreading, sorted_kept_too, unreading_next}
use Rattle.conflict.proofs.parties.drop_outs.Goals as goal

pub loop-reader-init : goal.loop-reader-init
loop-reader-init g c = (none_unreading c.args.writer c.args.parties.now.items, c.requires)

pub loop-reader-preserved : goal.loop-reader-preserved
loop-reader-preserved g c = (
  unreading_next c.args.writer c.args.readers.now c.loop-reader.reader-index c.args.parties.now.items c.loop-reader.parties.items c.drop_out.new.parties.items (omega arith) c.loop-reader.invariant.0 c.drop_out.ensures,
  sorted_kept_too c.loop-reader.parties.items c.drop_out.new.parties.items (get_or c.args.readers.now c.loop-reader.reader-index 0) c.args.writer c.loop-reader.invariant.1 c.drop_out.ensures,
)
