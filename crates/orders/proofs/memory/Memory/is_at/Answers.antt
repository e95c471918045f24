use Rattle.std.proofs.Common.{◌∙◌, sym, subst}
use Rattle.value.proofs.Basics.{IfOk_then}
use Rattle.orders.specs.Seen.{AreDead}
use Rattle.orders.specs.Walks.{IsDead}
use Rattle.orders.proofs.SeenLemmas.{dead-at}
use Rattle.orders.proofs.memory.Memory.is_at.Goals as goal

pub returns-in-Some-clause-dead : goal.returns-in-Some-clause-dead
returns-in-Some-clause-dead g c =
    IfOk_then c.is_at.result c.is_at.ensures.ok (λ b e h k ts a.
    subst (λ s. IsDead k ts s.done s.tables) (e h)
    (dead-at k ts c.deref.result.now c.args.place c.in-Some.dead.now (subst (AreDead k ts) (sym (c.deref.ensures.value ∙ c.self.view_is)) a) c.in-Some.ensures.lookup.3.0 c.in-Some.ensures.lookup.1))
