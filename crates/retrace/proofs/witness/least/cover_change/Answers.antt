use Rattle.std.proofs.Common.{◌∙◌, ap}
use Rattle.siread.specs.Reads.{all_of}
use Rattle.statement.specs.Cover.{covers}
use Rattle.retrace.proofs.witness.least.cover_change.Goals as goal

pub returns : goal.returns
returns g c =
    c.covers.ensures ∙ ap (λ t. covers (all_of c.args.held.now) t c.key.result.now) c.table.ensures
    ∙ ap (covers (all_of c.args.held.now) c.args.change.now.table) c.key.ensures
