use Rattle.statement.proofs.LawsLemmas.{same_outcome, same_rows}
use Rattle.statement.proofs.laws.footprint_suffices.Goals as goal

pub returns-clause-outcome : goal.returns-clause-outcome
returns-clause-outcome g c = λ c q X Y a. same_outcome c q X Y a

pub returns-clause-rows : goal.returns-clause-rows
returns-clause-rows g c = λ c q X Y a t k w. same_rows c q X Y a t k w
