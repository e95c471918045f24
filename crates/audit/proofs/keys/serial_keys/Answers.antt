use Rattle.history.specs.Events.{world}
use Rattle.serial.proofs.order.SerialTheorem.{good_world}
use Rattle.audit.proofs.SortingLemmas.{if-both, sorted_keys}
use Rattle.audit.proofs.keys.serial_keys.Goals as goal

pub returns-clause-serializable : goal.returns-clause-serializable
returns-clause-serializable g c = c.legal_histories_are_serializable.ensures c.args.core.now.opening c.args.core.now.records c.is_legal.ensures

pub returns-clause-ok : goal.returns-clause-ok
returns-clause-ok g c =
    if-both c.sorted.result c.sorted.ensures.order c.sorted.ensures.stable (λ keys order stable.
    sorted_keys (world c.args.core.now) (good_world c.args.core.now.opening c.args.core.now.records c.is_legal.ensures) c.keys.result.now keys.items c.keys.ensures order stable)
