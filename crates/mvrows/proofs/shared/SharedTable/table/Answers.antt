use Rattle.std.proofs.Common.{ap, sym, ◌∙◌}
use Rattle.mvrows.specs.HeldRows.{rows_in}
use Rattle.mvrows.proofs.SharedLemmas.{held-rows}
use Rattle.mvrows.proofs.shared.SharedTable.table.Goals as goal

pub returns : goal.returns
returns g c = ap rows_in c.get.ensures ∙ sym (held-rows c.self.inside.table) ∙ ap rows_in c.self.view_is
