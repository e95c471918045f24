use Rattle.command_shell.proofs.DrawnLemmas.{tells}
use Rattle.command_shell.proofs.prompt.drawn.draw_to.Goals as goal

pub returns-clause-told : goal.returns-clause-told
returns-clause-told g c = tells c.args.path.now _ c.picture_told.result (λ t. t.items) c.in_ok-is_written.is_written c.in_ok-is_written.ensures.written c.picture_told.ensures.text
