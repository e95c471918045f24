use Rattle.conflict.proofs.Kept.{outs_found}
use Rattle.conflict.proofs.conflicts.Conflicts.first_out.Goals as goal

pub least_out-requires-clause-sorted : goal.least_out-requires-clause-sorted
least_out-requires-clause-sorted g c = outs_found _ c.args.txn.0 c.in-Some.party.now c.as_slice.result.now c.self.invariant c.as_slice.ensures.value c.in-Some.ensures.some
