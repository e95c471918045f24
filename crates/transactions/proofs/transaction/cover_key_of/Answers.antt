use Rattle.std.proofs.Common.{◌∙◌, ap}
use Rattle.statement.specs.Cover.{covers}
use Rattle.transactions.proofs.transaction.cover_key_of.Goals as goal

pub returns : goal.returns
returns g c =
    c.covers.ensures ∙ ap (λ t. covers c.args.readings.now t c.key.result.now) c.table.ensures
    ∙ ap (covers c.args.readings.now c.args.change.now.table) c.key.ensures
