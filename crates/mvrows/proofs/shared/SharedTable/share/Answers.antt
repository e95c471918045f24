use Rattle.std.proofs.Common.{ap, sym, ◌∙◌}
use Rattle.mvrows.specs.HeldRows.{rows_in}
use Rattle.mvrows.proofs.SharedLemmas.{held-rows}
use Rattle.mvrows.proofs.shared.SharedTable.share.Goals as goal

pub returns : goal.returns
returns g c = held-rows c.share.new.self ∙ ap rows_in c.share.ensures ∙ sym (held-rows c.self.inside.table) ∙ ap rows_in c.self.view_is
