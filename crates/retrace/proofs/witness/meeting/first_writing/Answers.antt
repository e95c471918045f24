use Rattle.std.proofs.Common.{◌∙◌, sym, arith}
use Rattle.retrace.specs.Edges.{had_written}
use Rattle.retrace.proofs.WalkLemmas.{find_here, find_next}
use Rattle.retrace.proofs.witness.meeting.first_writing.Goals as goal

pub returns-then-had_written : goal.returns-then-had_written
returns-then-had_written g c =
    sym (find_here (had_written c.args.item.now c.args.writer.now) c.args.moments.now c.loop-moment.moment-index _ (omega arith) c.loop-moment.invariant (sym c.had_written.ensures ∙ c.if-had_written.true))

pub loop-moment-preserved : goal.loop-moment-preserved
loop-moment-preserved g c =
    find_next (had_written c.args.item.now c.args.writer.now) c.args.moments.now c.loop-moment.moment-index _ (omega arith) c.loop-moment.invariant (sym c.had_written.ensures ∙ c.if-had_written.false)
