use Rattle.std.proofs.Common.{◌∙◌}
use Rattle.siread.proofs.TallyLemmas.{finds_reference}
use Rattle.siread.proofs.cover.is_reference_read.Goals as goal

pub returns : goal.returns
returns g c = c.is_sought_read.ensures ∙ finds_reference c.args.table c.args.column c.args.key.now c.args.readings.now
