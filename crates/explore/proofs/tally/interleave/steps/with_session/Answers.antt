use Rattle.explore.proofs.Shares.{with_no_line}
use Rattle.explore.proofs.tally.interleave.steps.with_session.Goals as goal

pub loop-line-init : goal.loop-line-init
loop-line-init c = λ before e p. with_no_line c.args.number before p
