use Rattle.std.proofs.Common.{ap, ◌∙◌}
use Rattle.schema.specs.Definition.{table_named}
use Rattle.schema.proofs.NamedLemmas.{position-named}
use Rattle.schema.proofs.catalog.Catalog.find.Goals as goal

pub returns-in_err-place-clause-place : goal.returns-in_err-place-clause-place
returns-in_err-place-clause-place g c =
    let found = position-named c.args.name.now c.self.inside.tables.entries c.self.invariant.0 in
    let place = c.get_index_of.ensures.index ∙ found ∙ ap (λ tables. table_named tables c.args.name.now) c.self.view_is in
    cc (place, c.from_residual.ensures, c.in_err-place.was)

pub returns-clause-place : goal.returns-clause-place
returns-clause-place g c =
    let found = position-named c.args.name.now c.self.inside.tables.entries c.self.invariant.0 in
    let place = c.get_index_of.ensures.index ∙ found ∙ ap (λ tables. table_named tables c.args.name.now) c.self.view_is in
    cc (place, c.in_ok-place.was)
