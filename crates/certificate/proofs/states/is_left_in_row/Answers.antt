use Rattle.std.proofs.Common.{◌≡◌, sym, ap, ◌∙◌, subst}
use Rattle.orders.specs.declared.ways.way.After.TheVariants as comes
use Rattle.orders.specs.Ways.{effect_from, effect_on_field}
use Rattle.certificate.specs.Cells.{found_at}
use Rattle.certificate.specs.Recorded.{effect_of, leaves_same}
use Rattle.certificate.proofs.StateLemmas.{row-effect}
use Rattle.certificate.proofs.states.is_left_in_row.Goals as goal

pub returns : goal.returns
returns g c =
    subst (λ d. c.is_field.result ≡ leaves_same c.args.state.now (found_at c.args.place d.spot c.args.known.now.findings) (effect_of (effect_from d.spot.key c.args.way.now.is_absent (comes.Row c.args.fields.now) d.column))) c.cell.view_is
    (c.is_field.ensures
    ∙ ap (λ o. leaves_same c.args.state.now (found_at c.args.place c.cell.inside.spot c.args.known.now.findings) (effect_of (effect_on_field o))) c.field_at-field.ensures
    ∙ ap (λ e. leaves_same c.args.state.now (found_at c.args.place c.cell.inside.spot c.args.known.now.findings) (effect_of e)) (sym (row-effect c.cell.inside.spot.key c.args.fields.now c.cell.inside.column c.args.way.now.is_absent c.if-column-eq0.false c.if-way-2.false)))
