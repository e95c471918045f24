use Rattle.std.proofs.Common.{subst}
use Rattle.std.specs.Option.{option_map}
use Rattle.command_shell.specs.Words.{Asks}
use Rattle.command_shell.proofs.task.read_words.Goals as goal

pub returns-clause-asked : goal.returns-clause-asked
returns-clause-asked c = subst (λ rows. Asks rows (option_map (λ s. s.now) c.task_of.result.dump) c.task_of.result.most_events) c.in_ok-matches.ensures.matches c.task_of.ensures
