use Rattle.std.proofs.Common.{◌≡◌, ◌∙◌, ap, ap₂, true}
use Rattle.clap.specs.Words.{App, app_of, with_rule}
use Rattle.command_shell.specs.Words.{alone}
use Rattle.command_shell.proofs.task.command.Goals as goal

-- the command alone, and then each of its arguments
pub returns : goal.returns
returns c =
    let alone_is : app_of c.no_binary_name.result ≡ alone = rw (c.no_binary_name.ensures, c.in_ok-bin_name.ensures.0, c.about.ensures) (ap (λ (a : App). record a { top = record a.top { no_binary_name = true } }) c.new.ensures.app) in
    c.in_ok-shell.ensures.shape c.events.ensures.local
    ∙ ap₂ with_rule (c.in_ok-arg.ensures.shape c.dump.ensures.local ∙ ap₂ with_rule alone_is c.dump.ensures.rule) c.events.ensures.rule
