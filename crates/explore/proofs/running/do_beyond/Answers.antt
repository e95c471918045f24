use Rattle.explore.proofs.CursorLemmas.{stay}
use Rattle.explore.proofs.running.do_beyond.Goals as goal

pub returns-clause-after : goal.returns-clause-after
returns-clause-after g c =
    stay c.args.lines.now c.args.core.now c.do_counted.new.core c.args.cursors.now c.args.place c.requires.beyond c.requires.before c.in_ok-do_counted.ensures.done
