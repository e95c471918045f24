use Rattle.std.proofs.Common.{ap, arith, sym, ◌∙◌}
use Rattle.std.specs.Option.{option_copied}
use Rattle.terminal.specs.Admitted.{left_of}
use Rattle.terminal.proofs.AdmittedLemmas.{ample}
use Rattle.terminal.proofs.admitting.has_room.Goals as goal

pub returns-then-left-ge128-clause-room : goal.returns-then-left-ge128-clause-room
returns-then-left-ge128-clause-room g c =
    ample c.args.shell.now c.in-Some.core.now c.args.events c.left_of-left.result (sym c.core.ensures ∙ ap option_copied c.in-Some.is) c.requires (omega (arith, c.if-left-ge128.true)) (c.left_of-left.ensures ∙ ap left_of c.history.ensures)
