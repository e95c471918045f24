use Rattle.server.proofs.Grows.{call_after}
use Rattle.server.proofs.locked.Locked.leave.Goals as goal

pub returns-then-not-has_none-clause-left : goal.returns-then-not-has_none-clause-left
returns-then-not-has_none-clause-left g c = call_after g.J.Naming.opening g.J.Naming.most c.args.pass.now c.has_none.new.pass c.call.new.pass c.call.result c.has_none.ensures.looked.session c.has_none.ensures.looked.mine c.call.ensures.call
