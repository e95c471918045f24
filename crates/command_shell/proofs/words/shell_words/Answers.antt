use Rattle.std.proofs.Common.{inl, inr, refl}
use Rattle.command_shell.proofs.words.shell_words.Goals as goal

pub returns-in-Ok-clause-within : goal.returns-in-Ok-clause-within
returns-in-Ok-clause-within g c = c.end.ensures.within

pub returns-in-Ok-clause-usage : goal.returns-in-Ok-clause-usage
returns-in-Ok-clause-usage g c two = absurd (c.end.ensures.no_usage two)

pub returns-in-Ok-clause-mistake : goal.returns-in-Ok-clause-mistake
returns-in-Ok-clause-mistake g c mistaken = absurd (c.in-Ok.ensures.mistake mistaken)

pub returns-in-Ok-clause-did : goal.returns-in-Ok-clause-did
returns-in-Ok-clause-did g c = inr (c.in-Ok.served, c.in-Ok.ensures.begun, (c.converse.result, c.converse.ensures, c.end.ensures.status))

pub returns-in-Err-clause-within : goal.returns-in-Err-clause-within
returns-in-Err-clause-within g c = c.in-Err.ensures.within

pub returns-in-Err-clause-usage : goal.returns-in-Err-clause-usage
returns-in-Err-clause-usage g c = c.in-Err.ensures.usage

pub returns-in-Err-clause-mistake : goal.returns-in-Err-clause-mistake
returns-in-Err-clause-mistake g c = c.in-Err.ensures.mistake

pub returns-in-Err-clause-did : goal.returns-in-Err-clause-did
returns-in-Err-clause-did g c = inl (c.in-Err.ensures.unbegun, refl)
