use Rattle.transcript.proofs.SessionLemmas.{answered_there}
use Rattle.transcript.proofs.sessions.Sessions.answer.Goals as goal

pub returns-clause-ok : goal.returns-clause-ok
returns-clause-ok g c =
    answered_there c.args.self.now c.args.session c.place_of-place.result c.place_of-place.ensures.value c.take-one.result c.take-one.ensures.there c.take-one.new.self c.take-one.ensures.rest c.args.said c.answer.new.self c.put.new.self c.in_ok-outcome.outcome c.in_ok-outcome.ensures.ok c.in_ok-put.ensures.ok
