use Rattle.sqltext.proofs.TableLemmas.{refuses_the_first_fault_of_a_table}
use Rattle.sqltext.proofs.laws.the_first_fault_of_a_table_is_refused.Goals as goal

pub returns : goal.returns
returns c = refuses_the_first_fault_of_a_table
