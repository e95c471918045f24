use Rattle.std.proofs.Common.{sym, ◌∙◌}
use Rattle.orders.specs.Symbolic.{looks_at}
use Rattle.orders.proofs.CoverLemmas.{any-map}
use Rattle.orders.proofs.ways.cover.is_looked_at.Goals as goal

pub returns : goal.returns
returns g c = c.any_looks_at.ensures ∙ sym (any-map (λ a. (a.statement, a.reply)) (λ q. looks_at c.args.table c.args.key.now q.0) c.args.statements.now)
