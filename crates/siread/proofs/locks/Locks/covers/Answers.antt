use Rattle.std.proofs.Common.{◌∙◌, ap, []}
use Rattle.std.specs.Option.{option_map_or}
use Rattle.statement.specs.Cover.{covers}
use Rattle.siread.specs.Reads.{all_of, held_by}
use Rattle.siread.proofs.locks.Locks.covers.Goals as goal

pub returns-in-Some : goal.returns-in-Some
returns-in-Some g c =
    c.covers.ensures
    ∙ ap (λ rs. covers rs c.args.table c.args.key.now)
    (ap (λ o. option_map_or all_of o []) (c.in-Some.ensures.value ∙ ap (held_by c.args.txn.0) c.self.view_is))
