use Rattle.orders.proofs.CoverLemmas.{no_width}
use Rattle.orders.proofs.ways.cover.no_columns.Goals as goal

pub returns : goal.returns
returns g c = no_width c.args.catalog.now c.args.table c.requires
