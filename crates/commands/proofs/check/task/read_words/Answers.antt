use Rattle.std.proofs.Common.{subst}
use Rattle.commands.specs.CheckWords.{AsksFor}
use Rattle.commands.proofs.check.task.read_words.Goals as goal

pub returns-clause-asked : goal.returns-clause-asked
returns-clause-asked c = subst (λ rows. AsksFor rows c.task_of.result) c.in_ok-matches.ensures.rows c.task_of.ensures
