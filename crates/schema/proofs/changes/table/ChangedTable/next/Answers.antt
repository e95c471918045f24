use Rattle.std.proofs.Common.{Some, ap, ◌∙◌}
use Rattle.schema.proofs.ChangingLemmas.{next-shown}
use Rattle.schema.proofs.changes.table.ChangedTable.next.Goals as goal

pub returns-in-Some : goal.returns-in-Some
returns-in-Some g c =
    let first = next-shown c.self.inside.rows.entries c.args.after _ c.range.result c.self.invariant c.start_key.ensures (c.range.ensures.between tt) in
    ap (λ own. Some (c.in-Some.key.now, own)) c.as_ref.ensures.value ∙ rw (← c.self.view_is) (rw c.in-Some.ensures.steps at first)

pub returns-in-None : goal.returns-in-None
returns-in-None g c =
    let first = next-shown c.self.inside.rows.entries c.args.after _ c.range.result c.self.invariant c.start_key.ensures (c.range.ensures.between tt) in
    rw (← c.self.view_is) (rw c.in-None.ensures.steps.0 at first)
