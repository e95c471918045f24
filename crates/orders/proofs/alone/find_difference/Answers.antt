use Rattle.std.proofs.Common.{arith}
use Rattle.orders.proofs.AloneLemmas.{first-fits, rest-fit}
use Rattle.orders.proofs.alone.find_difference.Goals as goal

pub redo-requires-clause-fits : goal.redo-requires-clause-fits
redo-requires-clause-fits g c = first-fits (λ a. (a.statement, a.reply)) c.args.catalog.now c.loop-left.left.now c.answered-item.result c.in-len1-up.len_at_least c.answered-item.is c.loop-left.invariant.0

pub loop-left-preserved : goal.loop-left-preserved
loop-left-preserved g c =
    let long = c.in-len1-up.len_at_least in
    let counts = c.loop-left.invariant.2 in (
      rest-fit (λ a. (a.statement, a.reply)) c.args.catalog.now c.loop-left.left.now c.answered-item.result long c.answered-item.is c.loop-left.invariant.0,
      c.in_ok-reply.ensures.sound,
      grind (arith),
    )
