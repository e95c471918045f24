use Rattle.std.proofs.Common.{◌∙◌, ap, ltb}
use Rattle.siread.proofs.TallyLemmas.{many_keys}
use Rattle.siread.proofs.cover.has_many_keys.Goals as goal

pub returns : goal.returns
returns g c = ap (ltb 8) c.count_read.ensures ∙ many_keys c.args.table c.args.readings.now c.requires
