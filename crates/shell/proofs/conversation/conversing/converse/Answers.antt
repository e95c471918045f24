use Rattle.std.proofs.Common.{[], refl, sym}
use Rattle.std.proofs.lemmas.List.{append-nil}
use Rattle.shell.specs.declared.conversation.conversing.End.TheVariants.{Input}
use Rattle.shell.proofs.TurnLemmas.{ended, not-yet, once-more}
use Rattle.shell.proofs.conversation.conversing.converse.Goals as goal

pub loop-init : goal.loop-init
loop-init g c = not-yet g.H.Handler.answers c.args.handler (g.C.Conversation.turns c.args.conversation.now)

pub returns-in-Err : goal.returns-in-Err
returns-in-Err g c = ended g.H.Handler.answers c.args.handler (g.C.Conversation.turns c.args.conversation.now) c.loop.next (g.C.Conversation.turns c.loop.conversation) c.in-Err.end (g.C.Conversation.turns c.exchange.new.conversation) c.loop.invariant c.in-Err.ensures.ended

pub loop-preserved : goal.loop-preserved
loop-preserved g c = once-more g.H.Handler.answers c.args.handler (g.C.Conversation.turns c.args.conversation.now) c.loop.next (g.C.Conversation.turns c.loop.conversation) c.in-Ok.handler (g.C.Conversation.turns c.exchange.new.conversation) c.loop.invariant c.in-Ok.ensures.on

pub returns : goal.returns
returns g c = ended g.H.Handler.answers c.args.handler (g.C.Conversation.turns c.args.conversation.now) c.loop.next (g.C.Conversation.turns c.loop.conversation) Input (g.C.Conversation.turns c.loop.conversation) c.loop.invariant ([], refl, sym (append-nil (g.C.Conversation.turns c.loop.conversation)))
