use Rattle.sqltext.proofs.TableLemmas.{reads_spelled_tables, spells_one_table}
use Rattle.sqltext.proofs.laws.spelled_tables_are_read.Goals as goal

pub returns-clause-read : goal.returns-clause-read
returns-clause-read c = reads_spelled_tables

pub returns-clause-one : goal.returns-clause-one
returns-clause-one c = spells_one_table
