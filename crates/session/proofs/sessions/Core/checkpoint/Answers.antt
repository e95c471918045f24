use Rattle.history.specs.Answer.{checkpoint_answer}
use Rattle.session.specs.Core.{from_opening}
use Rattle.session.proofs.CoreLemmas.{answered_ok}
use Rattle.session.proofs.sessions.Core.checkpoint.Goals as goal

pub returns-in-Ok : goal.returns-in-Ok
returns-in-Ok g c = answered_ok c.in-Ok.next (from_opening c.args.max_events (checkpoint_answer c.args.self.opening c.args.self.records c.args.max_events)) c.in-Ok.ensures
