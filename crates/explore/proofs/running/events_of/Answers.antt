use Rattle.std.proofs.Common.{ap, ◌∙◌, ◌+◌, arith}
use Rattle.explore.proofs.Counting.{one_more_event}
use Rattle.explore.proofs.running.events_of.Goals as goal

pub loop-entry-preserved : goal.loop-entry-preserved
loop-entry-preserved g c =
    let more = one_more_event c.args.entries.now c.args.place c.loop-entry.entry-index c.one_at-count.result c.entry-item.result (omega arith) c.entry-item.is c.one_at-count.ensures.one in
    (ap (λ n. n + c.one_at-count.result) c.loop-entry.invariant.0 ∙ more, omega (arith, c.loop-entry.invariant.1, c.one_at-count.ensures.few))
