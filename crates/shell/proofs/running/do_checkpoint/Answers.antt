use Rattle.std.proofs.Common.{inl}
use Rattle.shell.proofs.HeldLemmas.{surely}
use Rattle.shell.proofs.running.do_checkpoint.Goals as goal

pub returns-in-Ok-clause-told : goal.returns-in-Ok-clause-told
returns-in-Ok-clause-told g c = inl (surely c.in-Ok.next _ c.in-Ok.ensures, c.in_ok-text.ensures.items)
