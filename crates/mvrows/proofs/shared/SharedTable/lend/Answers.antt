use Rattle.std.proofs.Common.{ap, sym, ◌∙◌}
use Rattle.mvrows.specs.HeldRows.{rows_in}
use Rattle.mvrows.proofs.SharedLemmas.{held-rows}
use Rattle.mvrows.proofs.shared.SharedTable.lend.Goals as goal

pub returns-clause-ok : goal.returns-clause-ok
returns-clause-ok g c = held-rows c.in_ok-table.table ∙ c.in_ok-table.ensures.ok ∙ sym (held-rows c.self.inside.table) ∙ ap rows_in c.self.view_is
