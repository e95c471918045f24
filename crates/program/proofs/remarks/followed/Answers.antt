use Rattle.std.proofs.Common.{◌∙◌, ap, length}
use Rattle.program.proofs.CourseLemmas.{followed_all}
use Rattle.program.proofs.remarks.followed.Goals as goal

pub returns-clause-whole : goal.returns-clause-whole
returns-clause-whole g c = c.in_ok-follow.ensures.ok ∙ followed_all c.args.history.now c.in_ok-past.past (length c.records.result.now) (ap length c.records.ensures) c.in_ok-past.ensures.begun
