use Rattle.std.proofs.lemmas.Result.{on_ok_weaker}
use Rattle.transcript.proofs.SessionLemmas.{recorded_there}
use Rattle.transcript.proofs.sessions.Sessions.record.Goals as goal

pub returns-clause-ok : goal.returns-clause-ok
returns-clause-ok g c =
    on_ok_weaker c.put.result (recorded_there c.args.self.now c.args.session c.place_of-place.result c.place_of-place.ensures.value c.take-one.result c.take-one.ensures.there c.take-one.new.self c.take-one.ensures.rest c.args.statement c.args.reply c.args.line c.record.new.self c.put.new.self c.in_ok-record.ensures.ok) c.put.ensures.ok
