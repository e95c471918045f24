use Rattle.std.proofs.Common.{refl}
use Rattle.program.specs.Remarks.{unnoted}
use Rattle.program.proofs.CourseLemmas.{went_on}
use Rattle.program.proofs.course.Course.checkpoint.Goals as goal

pub returns-in-Ok-clause-passed : goal.returns-in-Ok-clause-passed
returns-in-Ok-clause-passed g c = went_on c.args.most_events c.args.self.now _ (unnoted c.in-Ok.next) c.in-Ok.next c.in-Ok.ensures c.self.view_is refl
