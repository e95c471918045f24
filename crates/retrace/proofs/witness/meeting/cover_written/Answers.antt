use Rattle.std.proofs.Common.{◌∙◌}
use Rattle.siread.specs.Reads.{all_of}
use Rattle.retrace.proofs.WalkLemmas.{written-alike}
use Rattle.retrace.proofs.witness.meeting.cover_written.Goals as goal

pub returns-clause-ok : goal.returns-clause-ok
returns-clause-ok g c = c.held_cover.ensures ∙ written-alike (all_of c.in_ok-held.held) c.args.readings.now c.in_ok-held.ensures.ok c.args.writer.now.changes c.args.writer.now.marks
