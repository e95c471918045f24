use Rattle.std.proofs.Common.{inl, inr, refl}
use Rattle.command_shell.proofs.prompt.words.prompt_words.Goals as goal

pub returns-in-Ok-clause-did : goal.returns-in-Ok-clause-did
returns-in-Ok-clause-did g c = inr (c.in-Ok.served, c.in-Ok.ensures.begun, c.serve.ensures.typed)

pub returns-in-Err-clause-did : goal.returns-in-Err-clause-did
returns-in-Err-clause-did g c = inl (c.in-Err.ensures.unbegun, refl)
