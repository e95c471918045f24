use Rattle.std.proofs.Common.{None, arith}
use Rattle.std.specs.Option.{option_copied}
use Rattle.siread.specs.Reads.{all_of}
use Rattle.retrace.specs.Items.{lesser_change}
use Rattle.retrace.proofs.WalkLemmas.{fold_next}
use Rattle.retrace.proofs.witness.least.least_change.Goals as goal

pub loop-change-preserved : goal.loop-change-preserved
loop-change-preserved g c =
    fold_next (lesser_change (all_of c.args.held.now)) None c.args.changes.now c.loop-change.change-index c.change-item.result (option_copied c.loop-change.least) (option_copied c.lesser_change-least.result) (omega arith) c.change-item.is c.loop-change.invariant c.lesser_change-least.ensures
