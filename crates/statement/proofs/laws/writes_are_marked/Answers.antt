use Rattle.statement.proofs.LawsLemmas.{marked_before, marked_after}
use Rattle.statement.proofs.laws.writes_are_marked.Goals as goal

pub returns-clause-before : goal.returns-clause-before
returns-clause-before g c = λ c q X t j k p w n. marked_before c q X t j k p w n

pub returns-clause-after : goal.returns-clause-after
returns-clause-after g c = λ c q X t j k p w n. marked_after c q X t j k p w n
