use Rattle.statement.proofs.LawsLemmas.{written_read}
use Rattle.statement.proofs.laws.writes_are_read.Goals as goal

pub returns : goal.returns
returns g c = λ c q X f h t k w. written_read c q X f h t k w
