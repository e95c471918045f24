use Rattle.sqltext.proofs.FitsLemmas.{parsed_fits}
use Rattle.sqltext.proofs.parse.parse_statement.Goals as goal

pub returns-in-Ok-clause-fits : goal.returns-in-Ok-clause-fits
returns-in-Ok-clause-fits g c = parsed_fits c.args.catalog.now c.as_bytes.result.now c.in-Ok.statement c.in-Ok.ensures
