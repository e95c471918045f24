use Rattle.std.proofs.Common.{ap, sym, ◌∙◌, inl, Err}
use Rattle.session.specs.Core.{from_opening}
use Rattle.session.proofs.CoreLemmas.{checkpoint_busy}
use Rattle.session.proofs.sessions.go_on.Goals as goal

pub returns-else-is_quiet : goal.returns-else-is_quiet
returns-else-is_quiet g c =
    inl (ap Err c.of_code.ensures ∙ sym (ap (from_opening c.args.max_events) (checkpoint_busy c.args.history.now c.args.world.now c.requires.kept c.args.max_events (sym c.is_quiet.ensures ∙ c.if-is_quiet.false))))
