use Rattle.session.proofs.RowsKept.{rows_prune}
use Rattle.session.proofs.sessions.Core.prune.Goals as goal

pub invariant_of-self : goal.invariant_of-self
invariant_of-self g c = (
  c.self.invariant.0,
  c.self.invariant.1,
  rows_prune c.self.inside.history c.self.inside.world c.self.inside.rows c.prune.new.self c.lowest.result c.prune.result c.lowest.ensures c.self.invariant.2 c.prune.ensures.ok c.prune.ensures.err,
  c.self.invariant.3,
)
