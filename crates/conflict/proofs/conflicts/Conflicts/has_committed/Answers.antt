use Rattle.conflict.proofs.Kept.{committed_found, committed_none}
use Rattle.conflict.proofs.conflicts.Conflicts.has_committed.Goals as goal

pub returns-in-Some : goal.returns-in-Some
returns-in-Some g c = committed_found _ c.args.self.now c.args.txn.0 c.in-Some.party.now c.as_slice.result.now c.has_committed.result c.self.view_is c.self.invariant c.as_slice.ensures.value c.in-Some.ensures.some c.has_committed.ensures

pub returns-in-None : goal.returns-in-None
returns-in-None g c = committed_none _ c.args.self.now c.args.txn.0 c.as_slice.result.now c.self.view_is c.as_slice.ensures.value c.in-None.ensures.none
