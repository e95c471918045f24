use Rattle.std.proofs.Common.{sym, subst, arith}
use Rattle.mvrows.specs.Versions.{TablesAreBelow}
use Rattle.mvrows.proofs.HeldLemmas.{opened-below}
use Rattle.table_tests.proofs.versions.opening.Goals as goal

pub returns-clause-below : goal.returns-clause-below
returns-clause-below c = subst (TablesAreBelow 1) (sym c.in_ok-versions.ensures.ok) (opened-below 1 c.in_ok-tables.tables (omega arith))
