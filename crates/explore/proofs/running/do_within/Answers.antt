use Rattle.explore.proofs.CursorLemmas.{moved}
use Rattle.explore.proofs.running.do_within.Goals as goal

pub returns-clause-after : goal.returns-clause-after
returns-clause-after g c =
    moved c.args.lines.now c.args.core.now c.do_next.new.core c.args.cursors.now c.args.place c.in_ok-after.after c.requires.within c.requires.before c.in_ok-after.ensures.done c.in_ok-after.ensures.after
