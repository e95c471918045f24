use Rattle.std.proofs.Common.{◌∙◌}
use Rattle.siread.proofs.TallyLemmas.{finds_at_least}
use Rattle.siread.proofs.cover.has_key_at_least.Goals as goal

pub returns : goal.returns
returns g c = c.is_sought_read.ensures ∙ finds_at_least c.args.table c.args.key.now c.args.readings.now
