use Rattle.sqltext.proofs.TextLemmas.{creates_what_is_spelled, creates_nothing_else}
use Rattle.sqltext.proofs.laws.tables_are_created_as_spelled.Goals as goal

pub returns-clause-creates : goal.returns-clause-creates
returns-clause-creates c = creates_what_is_spelled

pub returns-clause-refuses : goal.returns-clause-refuses
returns-clause-refuses c = creates_nothing_else
