use Rattle.commands.proofs.CheckLemmas.{of_status}
use Rattle.commands.proofs.check.words.tell_words.Goals as goal

pub returns-in_default : goal.returns-in_default
returns-in_default g c = of_status c.args.error.now c.tell_words.result c.code.result c.code.ensures c.tell_words.ensures.usage c.tell_words.ensures.help
