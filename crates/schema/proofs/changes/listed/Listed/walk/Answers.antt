use Rattle.std.proofs.Common.{sym, ap, ◌∙◌}
use Rattle.schema.specs.Coming.{coming}
use Rattle.schema.proofs.ComingLemmas.{coming-other}
use Rattle.schema.proofs.ListedLemmas.{unequal}
use Rattle.schema.proofs.changes.listed.Listed.walk.Goals as goal

pub returns-else-eq : goal.returns-else-eq
returns-else-eq g c =
    coming-other c.self.inside.table c.args.table c.self.inside.list.items c.args.after (unequal c.args.table c.self.inside.table (sym c.eq.ensures ∙ c.if-eq.false)) c.self.invariant ∙ ap (λ xs. coming xs c.args.table c.args.after) c.self.view_is
