use Rattle.std.proofs.Common.{subst}
use Rattle.transactions.specs.Forgetting.{IsThinned}
use Rattle.session.proofs.Thinned.{kept_thinned, rows_thinned}
use Rattle.session.proofs.sessions.Core.forget.Goals as goal

pub invariant_of-self : goal.invariant_of-self
invariant_of-self g c =
    let i = c.self.inside in
    let k = c.self.invariant in
    let thinned : IsThinned i.unspoilt i.world c.forget.new.self = subst (λ ns. IsThinned ns i.world c.forget.new.self) c.as_slice.ensures c.forget.ensures in (
      kept_thinned i.history i.world k.0 i.keys.items _ k.1 i.unspoilt k.3 c.forget.new.self thinned,
      k.1,
      rows_thinned i.history i.world k.0 i.keys.items _ k.1 i.unspoilt k.3 c.forget.new.self thinned i.rows k.2,
      k.3,
    )
