use Rattle.std.proofs.Common.{ap, sym, subst, ◌<◌, length, ◌∙◌}
use Rattle.schema.specs.Plain.{rows_of}
use Rattle.mvrows.specs.Versions.{shown, shown_rows}
use Rattle.mvrows.specs.HeldRows.{rows_held}
use Rattle.mvrows.proofs.ViewLemmas.{table-shown}
use Rattle.mvrows.proofs.view.Versions.table.Goals as goal

pub returns : goal.returns
returns g c =
    let lt = subst (λ t. t < length (shown c.args.self.now.snapshot (rows_held c.args.self.now.tables.items))) (sym c.place.ensures) c.requires in
    ap (shown_rows c.args.self.now.snapshot) c.table.ensures
    ∙ table-shown c.args.self.now.snapshot c.args.self.now.tables.items c.place.result c.index.result.now c.index.ensures lt
    ∙ ap (rows_of (shown c.args.self.now.snapshot (rows_held c.args.self.now.tables.items))) c.place.ensures
