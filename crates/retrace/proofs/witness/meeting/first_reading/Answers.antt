use Rattle.std.proofs.Common.{◌∙◌, ap, sym, arith}
use Rattle.retrace.specs.Edges.{covers_by}
use Rattle.retrace.specs.Items.{cover_written}
use Rattle.retrace.proofs.WalkLemmas.{find_here, find_next}
use Rattle.retrace.proofs.witness.meeting.first_reading.Goals as goal

pub returns-then-branch-clause-ok : goal.returns-then-branch-clause-ok
returns-then-branch-clause-ok g c =
    sym (find_here (covers_by c.args.reader.now c.args.writer.now) c.args.moments.now c.loop-moment.moment-index _ (omega arith) c.loop-moment.invariant
    (sym (ap (λ rs. cover_written rs c.args.writer.now.changes c.args.writer.now.marks) c.read_by.ensures) ∙ sym c.in_ok-cover_written.ensures.ok ∙ c.if-branch.true))

pub loop-moment-preserved : goal.loop-moment-preserved
loop-moment-preserved g c =
    find_next (covers_by c.args.reader.now c.args.writer.now) c.args.moments.now c.loop-moment.moment-index _ (omega arith) c.loop-moment.invariant
    (sym (ap (λ rs. cover_written rs c.args.writer.now.changes c.args.writer.now.marks) c.read_by.ensures) ∙ sym c.in_ok-cover_written.ensures.ok ∙ c.if-branch.false)
