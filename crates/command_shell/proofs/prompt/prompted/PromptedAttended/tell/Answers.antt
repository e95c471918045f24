use Rattle.command_shell.proofs.DrawnLemmas.{drawing_told}
use Rattle.command_shell.proofs.prompt.prompted.PromptedAttended.tell.Goals as goal

pub returns-in-Drawing-clause-told : goal.returns-in-Drawing-clause-told
returns-in-Drawing-clause-told g c =
    drawing_told _ _ c.args.self c.args.aside c.args.text.now c.tell_drawing.result (λ x. x.0) (λ x. x.1.items) c.in-Drawing.is c.tell_drawing.ensures.same c.tell_drawing.ensures.told
