use Rattle.std.proofs.Common.{ap, sym, ◌∙◌}
use Rattle.schema.specs.WellFormed.{is_catalog}
use Rattle.schema.proofs.WellFormedLemmas.{catalog_from}
use Rattle.schema.proofs.catalog.Catalog.well_formed.Goals as goal

pub returns : goal.returns
returns g c = ap is_catalog (sym c.self.view_is) ∙ catalog_from _ c.self.invariant.1 c.self.invariant.2
