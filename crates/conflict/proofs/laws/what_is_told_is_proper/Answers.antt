use Rattle.conflict.proofs.Alike.{proper_told}
use Rattle.conflict.proofs.laws.what_is_told_is_proper.Goals as goal

pub returns : goal.returns
returns c = λ s x h can. proper_told s h x can
