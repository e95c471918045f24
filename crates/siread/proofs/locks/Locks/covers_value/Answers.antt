use Rattle.std.proofs.Common.{◌∙◌, ap, []}
use Rattle.std.specs.Option.{option_map_or}
use Rattle.statement.specs.Cover.{covers_value}
use Rattle.siread.specs.Reads.{all_of, held_by}
use Rattle.siread.proofs.locks.Locks.covers_value.Goals as goal

pub returns-in-Some : goal.returns-in-Some
returns-in-Some g c =
    c.covers_value.ensures
    ∙ ap (λ rs. covers_value rs c.args.table c.args.column c.args.key.now)
    (ap (λ o. option_map_or all_of o []) (c.in-Some.ensures.value ∙ ap (held_by c.args.txn.0) c.self.view_is))
