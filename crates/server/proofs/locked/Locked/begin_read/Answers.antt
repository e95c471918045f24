use Rattle.std.proofs.Common.{refl, ap, inl, inr}
use Rattle.statement.specs.declared.reply.Reply.TheVariants.{Refused}
use Rattle.server.proofs.locked.Locked.begin_read.Goals as goal

pub returns-in-Err-clause-hold : goal.returns-in-Err-clause-hold
returns-in-Err-clause-hold g c = (c.reader.ensures.looked.session, inr (record { reason = inl (refl, ap Refused c.of_code.ensures); mine = c.reader.ensures.looked.mine }))
