use Rattle.std.proofs.Common.{◌≡◌, List, IfOk, sym, subst}
use Rattle.schema.specs.declared.row.Row.{Row}
use Rattle.dumpplan.proofs.PieceLemmas.{rows_from-none}
use Rattle.dumpplan.proofs.range.walk_from.Goals as goal

pub returns-in-None-clause-rows : goal.returns-in-None-clause-rows
returns-in-None-clause-rows g c = rw c.in-None.is (subst (λ (rows : List (Row g.row.A.Denot)). IfOk c.over.result (λ walk. walk ≡ rows)) (sym (rows_from-none _)) c.over.ensures.rows)
