use Rattle.std.proofs.Common.{◌∙◌}
use Rattle.siread.proofs.TallyLemmas.{finds_whole}
use Rattle.siread.proofs.cover.is_read_whole.Goals as goal

pub returns : goal.returns
returns g c = c.is_form_read.ensures ∙ finds_whole c.args.table c.args.readings.now
