use Rattle.std.proofs.Common.{ap, ◌∙◌}
use Rattle.certificate.specs.Recorded.{board, one_allows}
use Rattle.certificate.proofs.sources.CellView.allows_opening.Goals as goal

pub returns-clause-ok : goal.returns-clause-ok
returns-clause-ok g c =
    c.one_allows_state.ensures
    ∙ ap (λ n. one_allows c.args.asked.now n c.in_ok-state.state) c.column.ensures
    ∙ ap (one_allows c.args.asked.now c.args.self.now.cell.column) (c.in_ok-state.ensures.ok ∙ ap (λ v. (board v.recording).opening v.cell.spot v.cell.column) c.self.view_is)
