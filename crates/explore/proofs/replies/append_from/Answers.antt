use Rattle.std.proofs.Common.{arith}
use Rattle.explore.proofs.Gathering.{all_replies, next_replies}
use Rattle.explore.proofs.replies.append_from.Goals as goal

pub loop-place-preserved : goal.loop-place-preserved
loop-place-preserved g c =
    next_replies c.args.entries.now c.loop-place.place c.index-entries-place.result c.loop-place.texts.items c.append_own.new.texts.items (omega (arith, c.loop-place-test.true)) c.index-entries-place.is c.in_ok-append_own.ensures c.loop-place.invariant

pub returns : goal.returns
returns g c = all_replies c.args.entries.now c.loop-place.place c.loop-place.texts.items (omega (arith, c.loop-place-test.false)) c.loop-place.invariant
