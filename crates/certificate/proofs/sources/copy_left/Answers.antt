use Rattle.std.proofs.Common.{◌∙◌}
use Rattle.certificate.specs.Recorded.{board}
use Rattle.certificate.proofs.LeftLemmas.{copy-more}
use Rattle.certificate.proofs.sources.copy_left.Goals as goal

pub loop-number-preserved : goal.loop-number-preserved
loop-number-preserved g c =
    copy-more (board c.args.recording.now) c.args.known.now c.args.place c.args.spot.now c.args.ways.now c.loop-number.number c.index-ways-number.result c.has_excluded-is_excluded.result c.loop-number.left.items c.push_left.new.left.items c.loop-number-test.true c.index-ways-number.is c.has_excluded-is_excluded.ensures c.in_ok-push_left.ensures.ok
    ∙ c.loop-number.invariant
