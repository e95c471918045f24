use Rattle.std.proofs.Common.{Some, ap, drop, slice_get, sym, ◌∙◌}
use Rattle.schema.proofs.ComingLemmas.{first_left}
use Rattle.schema.proofs.changes.walk.next_keyed.Goals as goal

pub returns-in-Some-clause-first : goal.returns-in-Some-clause-first
returns-in-Some-clause-first g c = ap (λ own. Some (c.in-Some.key.now, own)) c.as_ref.ensures.value ∙ (first_left _ _ _ c.in-Some.ensures.steps).0

pub returns-in-Some-clause-rest : goal.returns-in-Some-clause-rest
returns-in-Some-clause-rest g c = (first_left _ _ _ c.in-Some.ensures.steps).1

pub returns-in-None-clause-first : goal.returns-in-None-clause-first
returns-in-None-clause-first g c = ap (λ zs. slice_get zs 0) (sym c.in-None.ensures.steps.0)

pub returns-in-None-clause-rest : goal.returns-in-None-clause-rest
returns-in-None-clause-rest g c = c.in-None.ensures.steps.1 ∙ ap (drop 1) (sym c.in-None.ensures.steps.0)
