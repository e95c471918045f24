use Rattle.shell.proofs.OpeningLemmas.{both}
use Rattle.shell.proofs.shell.Shell.open_by.Goals as goal

pub returns-else-is_table-clause-told : goal.returns-else-is_table-clause-told
returns-else-is_table-clause-told g c = rw c.if-is_table.false (both _ _ c.start.result c.start.ensures.held c.start.ensures.told)

pub returns-then-is_table-clause-told : goal.returns-then-is_table-clause-told
returns-then-is_table-clause-told g c = rw c.if-is_table.true (both _ _ c.keep.result c.keep.ensures.held c.keep.ensures.text)
