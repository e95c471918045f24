use Rattle.schema.proofs.NamedLemmas.{columns_of-get}
use Rattle.schema.proofs.catalog.Catalog.table.Goals as goal

pub returns-clause-columns : goal.returns-clause-columns
returns-clause-columns g c = columns_of-get c.args.self.now c.args.table c.index.result.now (rw (← c.self.view_is, ← c.place.ensures) c.index.ensures)
