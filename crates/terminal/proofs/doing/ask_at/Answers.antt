use Rattle.std.proofs.Common.{ap, subst}
use Rattle.terminal.specs.Terminals.{AsksTimed, At, with}
use Rattle.terminal.proofs.doing.ask_at.Goals as goal

pub returns-clause-done : goal.returns-clause-done
returns-clause-done g c =
    let att = c.in_ok-attended.attended in
    let told = c.in_ok-attended.told.items in
    let asked = subst (λ (t : At _). AsksTimed g.H.Handler.answers g.H.Attended.held g.H.Attended.tells c.args.alone t.is_timed t.attended c.args.line.now att told) c.terminal.view_is c.in_ok-attended.ensures.asked in
    (att, asked, ap (λ (t : At _). with t att) c.terminal.view_is)
