use Rattle.std.proofs.Common.{◌≡◌, IfOk, subst}
use Rattle.shell.specs.Turns.{Tells}
use Rattle.shell.proofs.TurnLemmas.{exchanged-ok}
use Rattle.shell.proofs.conversation.conversing.exchange.Goals as goal

pub returns-clause-on : goal.returns-clause-on
returns-clause-on g c =
    let mid = g.C.Conversation.turns c.hear.new.conversation in
    let after = g.C.Conversation.turns c.tell.new.conversation in
    let told = subst (λ line. IfOk c.tell.result (λ q. Tells g.H.Handler.answers c.args.handler c.in_ok-heard.heard line q mid after)) c.as_slice.ensures.value c.tell.ensures.told in
    exchanged-ok g.H.Handler.answers c.args.handler c.in_ok-heard.heard c.hear.new.line.items (g.C.Conversation.turns c.args.conversation.now) mid after c.tell.result c.in_ok-heard.ensures.heard told
