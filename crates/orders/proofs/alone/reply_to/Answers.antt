use Rattle.std.proofs.Common.{ap}
use Rattle.statement.specs.Evaluation.{outcome}
use Rattle.statement.proofs.HeldLemmas.{held_sound}
use Rattle.orders.proofs.AloneLemmas.{answered-ok}
use Rattle.orders.proofs.alone.reply_to.Goals as goal

pub evaluate-requires-clause-held : goal.evaluate-requires-clause-held
evaluate-requires-clause-held g c = held_sound c.args.catalog.now c.args.tables.now c.requires.sound

pub returns-clause-ok : goal.returns-clause-ok
returns-clause-ok g c = ap (λ x. x.reply) (answered-ok c.in_ok-outcome.outcome (outcome c.args.catalog.now c.args.answered.now.statement c.args.tables.now) c.in_ok-outcome.ensures)
