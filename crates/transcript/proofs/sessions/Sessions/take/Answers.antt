use Rattle.std.proofs.Common.{◌∙◌, Some, ap, set, sym}
use Rattle.std.specs.Prelude.{slice_get}
use Rattle.transcript.specs.Sessions.{idle}
use Rattle.transcript.proofs.SpreadLemmas.{taken, there_first}
use Rattle.transcript.proofs.sessions.Sessions.take.Goals as goal

pub returns-clause-there : goal.returns-clause-there
returns-clause-there g c =
    ap (λ ss. slice_get ss c.args.place) (sym c.self.view_is)
    ∙ there_first c.args.place c.self.inside.asked.entries c.remove-found.result c.len-kept.ensures.ordered c.requires c.remove-found.ensures.value
    ∙ ap Some (sym c.or_idle.ensures)

pub returns-clause-rest : goal.returns-clause-rest
returns-clause-rest g c =
    taken c.args.place c.self.inside.asked.entries c.remove-found.new.self.entries c.remove-found.result c.len-kept.ensures.ordered c.requires c.remove-found.ensures.value c.remove-found.ensures.entries
    ∙ ap (λ ss. set ss c.args.place (idle {A = g.row.A.Denot})) c.self.view_is
