use Rattle.std.proofs.Common.{length}
use Rattle.judgement.proofs.reasons.phrases.Telling.append_shown.Given as goal

abbrev pub decreases-loop-left : goal.decreases-loop-left
decreases-loop-left g l = length l.left
