use Rattle.std.proofs.Common.{rules, ◌≡◌, true, subst, suc}
use Rattle.history.specs.declared.event.Action.TheVariants.{Poll}
use Rattle.server.specs.Calls.{IsCall}
use Rattle.server.proofs.Grows.{waited_more}
use Rattle.server.proofs.shared.poll_on.Goals as goal

pub loop-preserved : goal.loop-preserved
loop-preserved g c =
    let yes : c.is_wait.result ≡ true = search rules in
    let wait = c.is_wait.ensures.yes yes in
    let so_far = c.loop.invariant.2 in
    (tt, tt, (suc so_far.0, waited_more g.J.Naming.most c.args.pass.now c.loop.pass c.call-reply.new.pass so_far.0 so_far.1 (subst (λ r. IsCall g.J.Naming.most c.loop.pass Poll r c.call-reply.new.pass) wait c.call-reply.ensures.call) c.call-reply.ensures.seen.begins))
