use Rattle.std.proofs.Common.{◌≡◌, ◌∙◌, subst}
use Rattle.orders.specs.Ways.{effect}
use Rattle.certificate.specs.Cells.{found_at}
use Rattle.certificate.specs.Recorded.{effect_of, passes}
use Rattle.certificate.proofs.ViewLemmas.{way-passes}
use Rattle.certificate.proofs.sources.CellView.way_passes.Goals as goal

pub returns : goal.returns
returns g c =
    subst (λ v. c.passes.result ≡ passes c.args.asked.now v.cell.column (found_at c.args.place v.cell.spot v.known.findings) (effect_of (effect v.cell.spot.key c.args.way.now v.cell.column))) c.self.view_is c.passes.ensures
    ∙ way-passes c.args.self.now c.args.asked.now c.args.place c.args.way.now
