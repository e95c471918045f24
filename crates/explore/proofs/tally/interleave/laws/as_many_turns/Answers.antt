use Rattle.explore.proofs.Turns.{turns_each}
use Rattle.explore.proofs.tally.interleave.laws.as_many_turns.Goals as goal

pub returns : goal.returns
returns c = turns_each
