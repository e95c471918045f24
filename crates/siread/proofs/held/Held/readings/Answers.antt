use Rattle.std.proofs.Common.{ap, sym, subst, ◌∙◌}
use Rattle.std.proofs.lemmas.List.{take-append-drop}
use Rattle.siread.specs.Bounds.{HasFewKeys, HasFewOthers}
use Rattle.siread.specs.Extents.{IsEachOnce}
use Rattle.siread.specs.Reads.{all_of}
use Rattle.siread.proofs.held.Held.readings.Goals as goal

pub returns-clause-all : goal.returns-clause-all
returns-clause-all g c = c.as_slice.ensures.value ∙ sym (take-append-drop c.self.inside.settled c.self.inside.kept.items) ∙ ap all_of c.self.view_is

pub returns-clause-once : goal.returns-clause-once
returns-clause-once g c =
    subst IsEachOnce (sym (take-append-drop c.self.inside.settled c.self.inside.kept.items) ∙ ap all_of c.self.view_is) c.self.invariant.once

pub returns-clause-keys_before : goal.returns-clause-keys_before
returns-clause-keys_before g c = subst (λ ks. HasFewKeys ks) (ap (λ r. r.before) c.self.view_is) c.self.invariant.before

pub returns-clause-keys_last : goal.returns-clause-keys_last
returns-clause-keys_last g c = subst (λ ks. HasFewKeys ks) (ap (λ r. r.last) c.self.view_is) c.self.invariant.last

pub returns-clause-others : goal.returns-clause-others
returns-clause-others g c =
    subst HasFewOthers (sym (take-append-drop c.self.inside.settled c.self.inside.kept.items) ∙ ap all_of c.self.view_is) c.self.invariant.others
