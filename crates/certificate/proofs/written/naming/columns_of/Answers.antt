use Rattle.certificate.proofs.LineLemmas.{columns_none}
use Rattle.certificate.proofs.written.naming.columns_of.Goals as goal

pub returns-else-has : goal.returns-else-has
returns-else-has g c = columns_none c.args.catalog.now c.args.table c.has.result c.if-has.false c.has.ensures
