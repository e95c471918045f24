use Rattle.std.proofs.Common.{◌≡◌, length, IfSome, subst, ◌∙◌}
use Rattle.mvrows.specs.Versions.{shown_rows}
use Rattle.mvrows.specs.HeldRows.{rows_in}
use Rattle.mvrows.proofs.table.Table.count.Goals as goal

pub returns : goal.returns
returns g c = subst (λ ls. IfSome c.count_in.result (λ count. count ≡ length (shown_rows c.args.snapshot (rows_in ls)))) (c.as_slice.ensures.value ∙ c.self.view_is) c.count_in.ensures
