use Rattle.std.proofs.Common.{List, subst}
use Rattle.value.specs.declared.kind.Kind.{Kind}
use Rattle.restore.specs.Rows.{row_of_line}
use Rattle.restore.specs.Steps.{Gives}
use Rattle.restore.proofs.rows.insert_line.Goals as goal

pub returns-clause-row : goal.returns-clause-row
returns-clause-row g c = c.insert_read.ensures.row c.args.line.now (subst (λ (ks : List Kind). Gives (λ r. r) c.row_of_line-row.result (row_of_line ks c.args.line.now)) c.requires.kinds c.row_of_line-row.ensures)
