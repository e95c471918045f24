use Rattle.std.proofs.Common.{◌∙◌}
use Rattle.siread.proofs.TallyLemmas.{finds_range}
use Rattle.siread.proofs.cover.is_in_range.Goals as goal

pub returns : goal.returns
returns g c = c.is_sought_read.ensures ∙ finds_range c.args.table c.args.key.now c.args.readings.now
