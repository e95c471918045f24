use Rattle.std.proofs.Common.{◌≡◌, ◌∙◌, ap, subst, inl}
use Rattle.program.specs.Runs.{begun}
use Rattle.shell.specs.Shells.{running}
use Rattle.command_shell.proofs.asked.open_path.Goals as goal

pub returns-in_ok-text-in-Ok-clause-told : goal.returns-in_ok-text-in-Ok-clause-told
returns-in_ok-text-in-Ok-clause-told g c =
    let b = c.in-Ok.ensures.begun in
    let most = c.most_events-most_events in
    inl (b.0, b.1, b.2, subst (λ n. c.on.result ≡ running (begun b.0 b.1 n) n) most.ensures (c.on.ensures ∙ ap (λ h. running h most.result) b.3), c.in_ok-text-in-Ok.ensures.items)
