use Rattle.std.proofs.Common.{ap, true}
use Rattle.clap.specs.Words.{App}
use Rattle.program.proofs.task.alone.Goals as goal

-- each setting in turn
pub returns : goal.returns
returns c =
    rw (c.subcommand_required-alone.ensures, c.no_binary_name.ensures, c.after_help.ensures, c.version.ensures, c.in_ok-bin_name.ensures.0, c.about.ensures) (ap (λ (a : App). record a { top = record a.top { has_version = true; no_binary_name = true; subcommand_required = true } }) c.new.ensures.app)
