use Rattle.std.proofs.Common.{◌∙◌}
use Rattle.restore.proofs.stepwise.Sound.{dump_good}
use Rattle.restore.proofs.faults.Whole.{dump_agrees}
use Rattle.restore.proofs.sound.reads_sound_tables.Goals as goal

pub returns : goal.returns
returns g c = λ dump catalog X e. dump_good dump catalog X (dump_agrees dump ∙ e)
