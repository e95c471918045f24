use Rattle.std.proofs.Common.{sym, ap, ◌∙◌}
use Rattle.schema.specs.Changing.{change_of}
use Rattle.schema.proofs.ListedLemmas.{unequal, change_of-other}
use Rattle.schema.proofs.changes.listed.Listed.get.Goals as goal

pub returns-else-eq : goal.returns-else-eq
returns-else-eq g c =
    change_of-other c.self.inside.table c.args.table c.self.inside.list.items c.args.key.now (unequal c.args.table c.self.inside.table (sym c.eq.ensures ∙ c.if-eq.false)) c.self.invariant ∙ ap (λ xs. change_of xs c.args.table c.args.key.now) c.self.view_is
