use Rattle.std.proofs.Common.{arith, rules}
use Rattle.std.proofs.lemmas.Grind.{common_steps}
use Rattle.explore.proofs.Gathering.{still_prepared}
use Rattle.explore.proofs.running.do_each.Goals as goal

pub loop-left-preserved : goal.loop-left-preserved
loop-left-preserved g c = (
  grind (arith, common_steps),
  search rules,
  search rules,
  still_prepared c.args.lines.now c.args.events.now c.loop-left.core c.do_turn.new.core _ c.in_ok-do_turn.ensures.done c.loop-left.invariant.3,
)
