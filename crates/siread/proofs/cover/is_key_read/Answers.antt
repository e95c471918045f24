use Rattle.std.proofs.Common.{◌∙◌}
use Rattle.siread.proofs.TallyLemmas.{finds_key}
use Rattle.siread.proofs.cover.is_key_read.Goals as goal

pub returns : goal.returns
returns g c = c.is_sought_read.ensures ∙ finds_key c.args.table c.args.key.now c.args.readings.now
