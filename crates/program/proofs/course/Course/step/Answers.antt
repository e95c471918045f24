use Rattle.program.proofs.CourseLemmas.{known_after}
use Rattle.program.proofs.course.Course.step.Goals as goal

pub invariant_of-self : goal.invariant_of-self
invariant_of-self g c = known_after c.self.inside.core c.reply_to.new.core c.args.session c.args.request.now c.reply_to.result c.self.inside.past c.reply_to.ensures c.self.invariant
