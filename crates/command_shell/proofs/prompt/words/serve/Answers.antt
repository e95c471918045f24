use Rattle.std.proofs.Common.{inl}
use Rattle.command_shell.proofs.PromptWordsLemmas.{mute, typed}
use Rattle.command_shell.proofs.prompt.words.serve.Goals as goal

pub returns-in-Ok-clause-typed : goal.returns-in-Ok-clause-typed
returns-in-Ok-clause-typed g c = typed _ _ _ _ _ _ _ _ _ _ _ c.terminal_of-terminal.ensures c.in-Ok.ensures.told c.talk.ensures.talked

pub returns-in-Err-clause-typed : goal.returns-in-Err-clause-typed
returns-in-Err-clause-typed g c = inl (mute _ _ _ _ c.end.ensures.status c.in-Err.ensures.mute)
