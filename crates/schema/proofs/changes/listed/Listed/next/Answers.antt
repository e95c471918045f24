use Rattle.std.proofs.Common.{sym, ap, ◌∙◌}
use Rattle.schema.specs.Changing.{next_change}
use Rattle.schema.proofs.ListedLemmas.{unequal, next_change-other}
use Rattle.schema.proofs.changes.listed.Listed.next.Goals as goal

pub returns-else-eq : goal.returns-else-eq
returns-else-eq g c =
    next_change-other c.self.inside.table c.args.table c.self.inside.list.items c.args.after (unequal c.args.table c.self.inside.table (sym c.eq.ensures ∙ c.if-eq.false)) c.self.invariant ∙ ap (λ xs. next_change xs c.args.table c.args.after) c.self.view_is
