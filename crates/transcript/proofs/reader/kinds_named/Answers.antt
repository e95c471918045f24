use Rattle.std.proofs.Common.{arith}
use Rattle.transcript.specs.Reading.{kind_at}
use Rattle.transcript.proofs.GatherLemmas.{looked_more}
use Rattle.transcript.proofs.reader.kinds_named.Goals as goal

pub loop-place-preserved : goal.loop-place-preserved
loop-place-preserved g c =
    looked_more (kind_at c.args.columns.now) c.args.named.now c.loop-place.place-index c.loop-place.kinds.items c.push_kind.new.kinds.items c.kind_at.result (omega arith) c.loop-place.invariant c.in_ok-push_kind.ensures.ok c.kind_at.ensures
