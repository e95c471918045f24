use Rattle.statement.proofs.CoverSet.{covers_by_set, covers_value_by_set}
use Rattle.statement.proofs.laws.cover_is_of_the_set.Goals as goal

pub returns-clause-keys : goal.returns-clause-keys
returns-clause-keys g c = λ rs qs s t k. covers_by_set rs qs s t k

pub returns-clause-references : goal.returns-clause-references
returns-clause-references g c = λ rs qs s t j k. covers_value_by_set rs qs s t j k
