use Rattle.conflict.proofs.Kept.{latest_is, oldest_is}
use Rattle.conflict.proofs.conflicts.Conflicts.oldest.Goals as goal

pub returns-clause-oldest : goal.returns-clause-oldest
returns-clause-oldest g c = oldest_is _ c.args.self.now c.as_slice.result.now c.oldest.result c.self.view_is c.as_slice.ensures.value c.oldest.ensures

pub returns-clause-latest : goal.returns-clause-latest
returns-clause-latest g c = latest_is _ c.args.self.now c.as_slice.result.now c.oldest.result c.self.view_is c.as_slice.ensures.value c.oldest.ensures
