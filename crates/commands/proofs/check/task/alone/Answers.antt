use Rattle.std.proofs.Common.{ap, true}
use Rattle.clap.specs.Words.{App}
use Rattle.commands.proofs.check.task.alone.Goals as goal

-- each setting in turn
pub returns : goal.returns
returns c = rw (c.no_binary_name-alone.ensures, c.in_ok-bin_name.ensures.0, c.about.ensures) (ap (λ (a : App). record a { top = record a.top { no_binary_name = true } }) c.new.ensures.app)
