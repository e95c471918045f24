use Rattle.std.proofs.Common.{◌∙◌, [], ap, subst}
use Rattle.history.specs.Opening.{Recorded}
use Rattle.history.specs.Answer.{Legal}
use Rattle.pass.proofs.Legality.{legal_sound}
use Rattle.server.proofs.shared.Server.on.Goals as goal

pub first-keeper-requires-clause-sound : goal.first-keeper-requires-clause-sound
first-keeper-requires-clause-sound g c = legal_sound g.J.Naming.opening [] (subst (λ (h : Recorded _). Legal h.opening h.records) c.requires.core c.is_legal.ensures)

pub invariant_of-server : goal.invariant_of-server
invariant_of-server g c = record { catalog_is = c.in-Ok.ensures.ok ∙ (c.catalog.ensures ∙ ap (λ (h : Recorded _). h.opening.catalog) (c.history.ensures ∙ c.requires.core)) }
