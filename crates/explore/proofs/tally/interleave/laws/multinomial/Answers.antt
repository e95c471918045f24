use Rattle.explore.proofs.Number.{number}
use Rattle.explore.proofs.tally.interleave.laws.multinomial.Goals as goal

pub returns : goal.returns
returns c = number
