use Rattle.std.proofs.Common.{◌≡◌, subst, IfOk}
use Rattle.schema.specs.Plain.{row_at}
use Rattle.orders.specs.Ways.{cell}
use Rattle.certificate.proofs.recording.Recording.opened.Goals as goal

pub returns-clause-ok : goal.returns-clause-ok
returns-clause-ok g c =
    subst (λ r. IfOk c.cell_of.result (λ s. s ≡ cell c.args.cell.now.spot.key (row_at r.opening c.args.cell.now.spot.table c.args.cell.now.spot.key) c.args.cell.now.column)) c.self.view_is
    (subst (λ d. IfOk c.cell_of.result (λ s. s ≡ cell d.spot.key (row_at c.self.inside.opening.now d.spot.table d.spot.key) d.column)) c.cell.view_is
    (subst (λ o. IfOk c.cell_of.result (λ s. s ≡ cell c.cell.inside.spot.key o c.cell.inside.column)) c.row_of-row.ensures c.cell_of.ensures.ok))
