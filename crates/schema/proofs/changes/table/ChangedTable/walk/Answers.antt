use Rattle.std.proofs.Common.{ap, ◌∙◌}
use Rattle.schema.specs.Coming.{keyed_coming}
use Rattle.schema.proofs.ComingLemmas.{walk-shown}
use Rattle.schema.proofs.changes.table.ChangedTable.walk.Goals as goal

pub returns : goal.returns
returns g c =
    walk-shown c.self.inside.rows.entries c.args.after _ c.range.result c.self.invariant c.start_key.ensures (c.range.ensures.between tt)
    ∙ ap (λ cs. keyed_coming cs c.args.after) c.self.view_is
