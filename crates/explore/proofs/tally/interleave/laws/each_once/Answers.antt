use Rattle.std.proofs.Common.{refl, sum}
use Rattle.explore.specs.Interleavings.{interleavings}
use Rattle.explore.proofs.Once.{once, only}
use Rattle.explore.proofs.tally.interleave.laws.each_once.Goals as goal

pub returns-clause-each : goal.returns-clause-each
unfolding interleavings
returns-clause-each c = λ lines order i. once (sum lines) lines order refl i

pub returns-clause-only : goal.returns-clause-only
unfolding interleavings
returns-clause-only c = λ lines order p. only (sum lines) lines order refl p
