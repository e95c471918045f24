use Rattle.std.proofs.Common.{sym, ap, ◌∙◌}
use Rattle.schema.specs.Definition.{table_named}
use Rattle.schema.proofs.NamedLemmas.{nothing_named}
use Rattle.schema.proofs.catalog.Catalog.find_bytes.Goals as goal

pub returns-in-Err-clause-place : goal.returns-in-Err-clause-place
returns-in-Err-clause-place g c =
    sym (ap (λ tables. table_named tables c.args.name.now) (sym c.self.view_is) ∙ nothing_named c.args.name.now c.self.inside.tables.entries c.self.invariant.0 c.in-Err.ensures.cases.0)
