use Rattle.std.proofs.Common.{◌∙◌, ap, codes}
use Rattle.clap.specs.Words.{App, with_subcommand}
use Rattle.program.specs.CommandLine.{of_script, restore, run}
use Rattle.program.proofs.task.pgserial.Goals as goal

-- the program alone, and then each of its commands
pub returns : goal.returns
returns c =
    c.in_ok-restore.ensures c.in_ok-subcommand-2.field-0 c.in_ok-program.program c.in_ok-program.ensures
    ∙ ap (λ (a : App). with_subcommand a restore.top) (c.in_ok-audit.ensures c.in_ok-subcommand.field-0 c.in_ok-subcommand-2.field-0 c.in_ok-subcommand-2.ensures
    ∙ ap (λ (a : App). with_subcommand a (of_script (codes "audit")).top) (c.in_ok-run.ensures c.in_ok-alone.field-0 c.in_ok-subcommand.field-0 c.in_ok-subcommand.ensures ∙ ap (λ (a : App). with_subcommand a run.top) c.in_ok-alone.ensures))
