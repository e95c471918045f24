use Rattle.sqltext.proofs.StatementLemmas.{refuses_the_first_fault}
use Rattle.sqltext.proofs.laws.the_first_fault_is_refused.Goals as goal

pub returns : goal.returns
returns g c = refuses_the_first_fault _
