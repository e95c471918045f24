use Rattle.std.proofs.Common.{◌∙◌}
use Rattle.statement.specs.Cover.{same_extent}
use Rattle.siread.proofs.TallyLemmas.{is_found}
use Rattle.siread.proofs.cover.is_extent_read.Goals as goal

pub returns : goal.returns
returns g c = c.is_extent_read.ensures ∙ is_found (same_extent c.args.reading.now.extent) c.args.reading.now.table c.args.readings.now
