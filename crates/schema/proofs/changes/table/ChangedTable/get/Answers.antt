use Rattle.std.proofs.Common.{Some, ap, ◌∙◌}
use Rattle.schema.specs.Changing.{keyed_change}
use Rattle.schema.proofs.ChangingLemmas.{keyed-shown}
use Rattle.schema.proofs.changes.table.ChangedTable.get.Goals as goal

pub returns-in-Some : goal.returns-in-Some
returns-in-Some g c =
    ap Some c.as_ref.ensures.value ∙ c.in-Some.ensures.value ∙ keyed-shown c.self.inside.rows.entries c.args.key.now c.self.invariant ∙ ap (λ cs. keyed_change cs c.args.key.now) c.self.view_is

pub returns-in-None : goal.returns-in-None
returns-in-None g c = c.in-None.ensures.value ∙ keyed-shown c.self.inside.rows.entries c.args.key.now c.self.invariant ∙ ap (λ cs. keyed_change cs c.args.key.now) c.self.view_is
