use Rattle.std.proofs.Common.{All, subst, arith}
use Rattle.std.proofs.lemmas.List.{take_all}
use Rattle.program.specs.Freely.{IsAmong}
use Rattle.program.proofs.FreelyLemmas.{among_next}
use Rattle.program.proofs.free.serving.greatest_session.Goals as goal

pub loop-line-preserved : goal.loop-line-preserved
loop-line-preserved c = among_next c.loop-line.greatest c.if-session-greatest.greatest c.session_of-session.result c.args.lines.now c.loop-line.line-index c.line-item.result (omega arith) c.line-item.is (omega arith) (omega arith) c.loop-line.invariant c.session_of-session.ensures

pub returns : goal.returns
returns c = subst (All (λ k. IsAmong c.loop-line.greatest k.step)) (take_all c.loop-line.line-index c.args.lines.now (omega arith)) c.loop-line.invariant
