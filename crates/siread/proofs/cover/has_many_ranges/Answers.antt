use Rattle.std.proofs.Common.{◌∙◌, ap, ltb, true, false}
use Rattle.siread.proofs.TallyLemmas.{many_ranges}
use Rattle.siread.proofs.cover.has_many_ranges.Goals as goal

pub returns-then-has_many_keys : goal.returns-then-has_many_keys
returns-then-has_many_keys g c = ap (ltb 3) c.count_read-count.ensures ∙ many_ranges c.args.table c.args.readings.now c.requires true c.if-has_many_keys.ensures

pub returns-else-has_many_keys : goal.returns-else-has_many_keys
returns-else-has_many_keys g c = ap (ltb 4) c.count_read-count.ensures ∙ many_ranges c.args.table c.args.readings.now c.requires false c.if-has_many_keys.ensures
