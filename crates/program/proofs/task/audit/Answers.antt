use Rattle.std.proofs.Common.{◌≡◌, ◌∙◌, ap, ap₂, refl, codes}
use Rattle.clap.specs.Words.{App, app_of, new_app, with_rule, with_subcommand}
use Rattle.program.specs.CommandLine.{of_script}
use Rattle.program.proofs.task.audit.Goals as goal

-- the command alone, and then each of its arguments, none of which is for subcommands too
pub returns : goal.returns
returns c =
    let alone : app_of c.about.result ≡ new_app (codes "audit") = rw c.about.ensures c.new.ensures.app in
    let is : app_of c.in_ok-audit.audit ≡ of_script (codes "audit") = c.in_ok-audit.ensures.shape c.events.ensures.local ∙ ap₂ with_rule (c.in_ok-arg.ensures.shape c.script.ensures.local ∙ ap₂ with_rule alone c.script.ensures.rule) c.events.ensures.rule in
    λ old new adds. adds.shape (c.in_ok-audit.ensures.globals ∙ rw (c.in_ok-arg.ensures.globals, c.about.ensures, c.new.ensures.local, c.script.ensures.local, c.events.ensures.local) refl) ∙ ap (λ (a : App). with_subcommand (app_of old) a.top) is
