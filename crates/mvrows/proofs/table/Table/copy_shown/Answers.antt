use Rattle.std.proofs.Common.{ap, subst, ◌∙◌}
use Rattle.std.proofs.lemmas.Result.{on_ok_weaker}
use Rattle.mvrows.specs.Versions.{IsInOrder, shown_rows}
use Rattle.mvrows.specs.HeldRows.{rows_in}
use Rattle.mvrows.specs.Copied.{with_rows}
use Rattle.mvrows.proofs.CopiedLemmas.{table-copied}
use Rattle.mvrows.proofs.table.Table.copy_shown.Goals as goal

pub returns-clause-ok : goal.returns-clause-ok
returns-clause-ok g c =
    on_ok_weaker c.copy_all_shown.result
    (λ made.
    table-copied c.args.snapshot c.args.self.now c.args.copies.now c.copy_all_shown.new.copies c.args.table c.requires.none (subst (λ ls. IsInOrder (rows_in ls)) c.self.view_is c.self.invariant.0)
    (made ∙ ap (λ ls. with_rows c.args.copies.now c.args.table (shown_rows c.args.snapshot (rows_in ls))) (c.as_slice.ensures.value ∙ c.self.view_is)))
    c.copy_all_shown.ensures.ok
