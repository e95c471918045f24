use Rattle.explore.proofs.Gathering.{one_prepared}
use Rattle.explore.proofs.asked.events_of.Goals as goal

pub loop-line-preserved : goal.loop-line-preserved
loop-line-preserved g c =
    one_prepared c.args.catalog.now c.args.lines.now c.loop-line.line-index c.line-item.result c.loop-line.events.items c.push.new.self.items c.in_ok-event_of.field-0 c.loop-line-test.true c.line-item.is c.in_ok-push.ensures.items c.in_ok-event_of.ensures.event c.in_ok-event_of.ensures.allowed c.loop-line.invariant
