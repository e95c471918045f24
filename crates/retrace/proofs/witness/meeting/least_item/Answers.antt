use Rattle.std.proofs.Common.{◌≡◌, subst, IfOk}
use Rattle.siread.specs.Reads.{all_of}
use Rattle.retrace.proofs.WalkLemmas.{item-alike}
use Rattle.retrace.proofs.witness.meeting.least_item.Goals as goal

pub returns-clause-ok : goal.returns-clause-ok
returns-clause-ok g c =
    subst (λ z. IfOk c.held_least.result (λ item. item ≡ z)) (item-alike (all_of c.in_ok-held.held) c.args.readings.now c.in_ok-held.ensures.ok c.args.writer.now.changes c.args.writer.now.marks) c.held_least.ensures.ok
