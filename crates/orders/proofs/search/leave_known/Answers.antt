use Rattle.std.proofs.Common.{sym, subst}
use Rattle.std.proofs.lemmas.Bool.{not-false}
use Rattle.orders.specs.Walks.{IsWalk}
use Rattle.orders.proofs.WalkLemmas.{known-back}
use Rattle.orders.proofs.search.leave_known.Goals as goal

pub returns-then-not-found-clause-ok : goal.returns-then-not-found-clause-ok
returns-then-not-found-clause-ok g c = λ k X ts w d. subst (IsWalk k X ts) (sym c.count.ensures) w

pub returns-clause-ok : goal.returns-clause-ok
returns-clause-ok g c = λ k X ts w d.
    subst (IsWalk k X ts) (sym c.count-2.ensures)
    (known-back k X ts c.args.walk.now c.take_back.new.self c.in_ok-taken.taken w (c.in_ok-found.ensures.dead (not-false c.in_ok-found.found.known c.if-not-found.false) k ts d) c.in_ok-taken.ensures.ok)
