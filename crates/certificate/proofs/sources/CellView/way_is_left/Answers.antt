use Rattle.std.proofs.Common.{◌≡◌, ◌∙◌, subst}
use Rattle.orders.specs.Ways.{effect}
use Rattle.certificate.specs.Cells.{found_at}
use Rattle.certificate.specs.Recorded.{effect_of, leaves_same}
use Rattle.certificate.proofs.ViewLemmas.{way-leaves}
use Rattle.certificate.proofs.sources.CellView.way_is_left.Goals as goal

pub returns : goal.returns
returns g c =
    subst (λ v. c.is_left.result ≡ leaves_same c.args.state.now (found_at c.args.place v.cell.spot v.known.findings) (effect_of (effect v.cell.spot.key c.args.way.now v.cell.column))) c.self.view_is c.is_left.ensures
    ∙ way-leaves c.args.self.now c.args.state.now c.args.place c.args.way.now
