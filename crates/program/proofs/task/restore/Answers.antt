use Rattle.std.proofs.Common.{◌≡◌, ◌∙◌, ap, ap₂, refl, codes}
use Rattle.clap.specs.Words.{App, app_of, new_app, with_rule, with_subcommand}
use Rattle.program.specs.CommandLine.{restore}
use Rattle.program.proofs.task.restore.Goals as goal

-- the command alone, and then each of its arguments, none of which is for subcommands too
pub returns : goal.returns
returns c =
    let alone : app_of c.about.result ≡ new_app (codes "restore") = rw c.about.ensures c.new.ensures.app in
    let is : app_of c.in_ok-restore.restore ≡ restore = c.in_ok-restore.ensures.shape c.out.ensures.local
    ∙ ap₂ with_rule (c.in_ok-arg-2.ensures.shape c.jobs.ensures.local ∙ ap₂ with_rule (c.in_ok-arg.ensures.shape c.dump.ensures.local ∙ ap₂ with_rule alone c.dump.ensures.rule) c.jobs.ensures.rule) c.out.ensures.rule in
    λ old new adds. adds.shape (c.in_ok-restore.ensures.globals ∙ rw (c.in_ok-arg-2.ensures.globals, c.in_ok-arg.ensures.globals, c.about.ensures, c.new.ensures.local, c.dump.ensures.local, c.jobs.ensures.local, c.out.ensures.local) refl)
    ∙ ap (λ (a : App). with_subcommand (app_of old) a.top) is
