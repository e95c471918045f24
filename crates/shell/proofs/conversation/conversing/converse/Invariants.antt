use Rattle.shell.specs.Turns.{GoesOn}
use Rattle.shell.proofs.conversation.conversing.converse.Given as goal

abbrev pub invariant-loop : goal.invariant-loop
invariant-loop g l = GoesOn g.H.Handler.answers l.fn.handler (g.C.Conversation.turns l.fn.conversation) l.next (g.C.Conversation.turns l.conversation)
