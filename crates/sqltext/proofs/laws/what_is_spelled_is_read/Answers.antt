use Rattle.sqltext.proofs.StatementLemmas.{reads_what_is_spelled, spells_one_tree}
use Rattle.sqltext.proofs.laws.what_is_spelled_is_read.Goals as goal

pub returns-clause-read : goal.returns-clause-read
returns-clause-read g c = reads_what_is_spelled _

pub returns-clause-one : goal.returns-clause-one
returns-clause-one g c = spells_one_tree _
