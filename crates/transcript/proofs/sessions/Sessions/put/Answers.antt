use Rattle.std.proofs.Common.{◌∙◌, ap, set}
use Rattle.transcript.proofs.SpreadLemmas.{given}
use Rattle.transcript.proofs.sessions.Sessions.put.Goals as goal

pub returns-clause-ok : goal.returns-clause-ok
returns-clause-ok g c =
    given c.args.place c.self.inside.asked.entries c.insert.new.self.entries c.args.session c.in_ok-insert.ensures.was_ordered c.requires c.in_ok-insert.ensures.entries
    ∙ ap (λ ss. set ss c.args.place c.args.session) c.self.view_is
