use Rattle.std.proofs.Common.{◌≡◌, ◌∙◌, ap, ap₂, refl, codes}
use Rattle.clap.specs.Words.{App, app_of, new_app, with_rule, with_subcommand}
use Rattle.program.specs.CommandLine.{run}
use Rattle.program.proofs.task.run.Goals as goal

-- the command alone, and then each of its arguments, none of which is for subcommands too
pub returns : goal.returns
returns c =
    let alone : app_of c.about.result ≡ new_app (codes "run") = rw c.about.ensures c.new.ensures.app in
    let is : app_of c.in_ok-run_command.run_command ≡ run = c.in_ok-run_command.ensures.shape c.transcript.ensures.local
    ∙ ap₂ with_rule (c.in_ok-arg-5.ensures.shape c.why.ensures.local ∙ ap₂ with_rule (c.in_ok-arg-4.ensures.shape c.no_check.ensures.local ∙ ap₂ with_rule (c.in_ok-arg-3.ensures.shape c.free.ensures.local ∙ ap₂ with_rule (c.in_ok-arg-2.ensures.shape c.events.ensures.local ∙ ap₂ with_rule (c.in_ok-arg.ensures.shape c.script.ensures.local ∙ ap₂ with_rule alone c.script.ensures.rule) c.events.ensures.rule) c.free.ensures.rule) c.no_check.ensures.rule) c.why.ensures.rule) c.transcript.ensures.rule in
    λ old new adds. adds.shape (c.in_ok-run_command.ensures.globals ∙ rw (c.in_ok-arg-5.ensures.globals, c.in_ok-arg-4.ensures.globals, c.in_ok-arg-3.ensures.globals, c.in_ok-arg-2.ensures.globals, c.in_ok-arg.ensures.globals, c.about.ensures, c.new.ensures.local, c.script.ensures.local, c.events.ensures.local, c.free.ensures.local, c.no_check.ensures.local, c.why.ensures.local, c.transcript.ensures.local) refl)
    ∙ ap (λ (a : App). with_subcommand (app_of old) a.top) is
