use Rattle.std.proofs.Common.{◌∙◌, ap, map}
use Rattle.value.proofs.Basics.{IfOk_then}
use Rattle.history.specs.Events.{world}
use Rattle.history.specs.Serial.{serial_order}
use Rattle.audit.specs.Sorting.{Entry}
use Rattle.audit.proofs.SortingLemmas.{numbers-seen, numbers-with}
use Rattle.audit.proofs.keys.serial_order.Goals as goal

pub returns-clause-ok : goal.returns-clause-ok
returns-clause-ok g c =
    let w = world c.args.core.now in
    IfOk_then c.numbers_of.result c.numbers_of.ensures.ok (λ numbers e.
    e ∙ ap (map (λ (d : Entry). d.0.0)) c.as_slice.ensures.value ∙ numbers-seen c.in_ok-keys.keys.items ∙ ap (map (λ d. d.0)) c.in_ok-keys.ensures.ok ∙ numbers-with w (serial_order w))
