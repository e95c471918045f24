use Rattle.std.proofs.Common.{subst}
use Rattle.history.specs.Opening.{Opening}
use Rattle.history.specs.Answer.{Legal}
use Rattle.pass.proofs.Legality.{legal_sound}
use Rattle.served_tests.proofs.passes.step_and_stamp.Goals as goal

pub first-keeper-requires-clause-sound : goal.first-keeper-requires-clause-sound
first-keeper-requires-clause-sound g c = legal_sound g.J.Naming.opening c.args.core.records (subst (λ (o : Opening _). Legal o c.args.core.records) c.requires.core.0 c.is_legal.ensures)
