use Rattle.std.proofs.Common.{◌≡◌, ◌∙◌, ap}
use Rattle.shell.specs.Shells.{running}
use Rattle.command_shell.proofs.beginning.begin_on.Goals as goal

pub returns-clause-begun : goal.returns-clause-begun
returns-clause-begun g c =
    let b = c.in_ok-core.ensures.begun in
    (b.0, b.1, b.2, c.on.ensures ∙ ap (λ h. running h c.args.most_events) b.3)
