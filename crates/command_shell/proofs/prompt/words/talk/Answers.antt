use Rattle.command_shell.proofs.prompt.words.talk.Goals as goal

pub returns-clause-talked : goal.returns-clause-talked
returns-clause-talked g c = (c.converse-ended.result, c.converse-ended.ensures, c.end.ensures.status)
