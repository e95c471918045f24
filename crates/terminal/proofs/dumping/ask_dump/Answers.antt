use Rattle.std.proofs.Common.{ap, subst, ◌∙◌, IfOk}
use Rattle.terminal.specs.Terminals as spec
use Rattle.terminal.specs.Terminals.{AsksPlainly}
use Rattle.terminal.proofs.dumping.ask_dump.Goals as goal

pub returns-clause-asked : goal.returns-clause-asked
returns-clause-asked g c =
    subst (λ line. IfOk c.ask_plainly.result (λ x. AsksPlainly g.H.Handler.answers c.args.attended line x.0 x.1.items))
    (c.as_slice-2.ensures.value ∙ c.in_ok-line.ensures.text ∙ ap (spec.session_line c.args.session) (c.as_slice.ensures.value ∙ c.in_ok-command.ensures.text))
    c.ask_plainly.ensures.asked
