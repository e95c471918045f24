use Rattle.conflict.proofs.WorldLemmas.{key_of_out, out_seen, spoils_by_out}
use Rattle.conflict.proofs.laws.first_outs_are_those_of_the_tracked.Goals as goal

pub returns-clause-tracked : goal.returns-clause-tracked
returns-clause-tracked g c = out_seen

pub returns-clause-key : goal.returns-clause-key
returns-clause-key g c = λ n e ts t. key_of_out n e t ts

pub returns-clause-spoils : goal.returns-clause-spoils
returns-clause-spoils g c = λ n e ts t s. spoils_by_out n e t s ts
