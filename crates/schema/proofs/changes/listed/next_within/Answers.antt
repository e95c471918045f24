use Rattle.std.proofs.Common.{Some, ◌∙◌}
use Rattle.schema.proofs.ListedLemmas.{next_change-listed}
use Rattle.schema.proofs.changes.listed.next_within.Goals as goal

pub returns-in-Some : goal.returns-in-Some
returns-in-Some g c =
    let next = next_change-listed c.args.table c.args.list.now c.args.after c.of_values.result c.start.result c.requires c.of_values.ensures.keys c.start.ensures.before c.start.ensures.within in
    (λ i. Some (c.key.ensures i, c.row.ensures i)) ∙ rw (← c.in-Some.ensures) at next

pub returns-in-None : goal.returns-in-None
returns-in-None g c =
    let next = next_change-listed c.args.table c.args.list.now c.args.after c.of_values.result c.start.result c.requires c.of_values.ensures.keys c.start.ensures.before c.start.ensures.within in
    rw (← c.in-None.ensures) at next
