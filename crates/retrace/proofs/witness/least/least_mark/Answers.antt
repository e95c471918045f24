use Rattle.std.proofs.Common.{None, arith}
use Rattle.std.specs.Option.{option_copied}
use Rattle.siread.specs.Reads.{all_of}
use Rattle.retrace.specs.Items.{lesser_mark}
use Rattle.retrace.proofs.WalkLemmas.{fold_next}
use Rattle.retrace.proofs.witness.least.least_mark.Goals as goal

pub loop-mark-preserved : goal.loop-mark-preserved
loop-mark-preserved g c =
    fold_next (lesser_mark (all_of c.args.held.now)) None c.args.marks.now c.loop-mark.mark-index c.mark-item.result (option_copied c.loop-mark.least) (option_copied c.lesser_mark-least.result) (omega arith) c.mark-item.is c.loop-mark.invariant c.lesser_mark-least.ensures
