use Rattle.explore.proofs.Gathering.{adds_reached}
use Rattle.explore.proofs.replies.append_own.Goals as goal

pub returns : goal.returns
returns g c =
    adds_reached c.append_at.result c.args.entry.now c.args.texts.now.items c.reach.new.texts.items c.append_at.new.texts.items c.in_ok-reach.ensures.few c.in_ok-reach.ensures.same c.append_at.ensures
