use Rattle.conflict.proofs.Kept.{among_found, few_live}
use Rattle.conflict.proofs.conflicts.Conflicts.dooms.Goals as goal

pub doomed_by-requires-clause-among : goal.doomed_by-requires-clause-among
doomed_by-requires-clause-among g c = among_found _ c.args.committer.0 c.in-Some.party.now c.as_slice.result.now c.as_slice-in-Some.result.now c.self.invariant c.as_slice.ensures.value c.in-Some.ensures.some c.as_slice-in-Some.ensures.value

pub doomed_by-requires-clause-few : goal.doomed_by-requires-clause-few
doomed_by-requires-clause-few g c = few_live _ c.args.self.now c.args.committer.0 c.in-Some.party.now c.as_slice.result.now c.as_slice-in-Some.result.now c.self.view_is c.requires c.as_slice.ensures.value c.in-Some.ensures.some c.as_slice-in-Some.ensures.value
