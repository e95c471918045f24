use Rattle.std.proofs.Common.{sym, subst}
use Rattle.orders.specs.Found.{HasGone}
use Rattle.orders.proofs.WalkLemmas.{none-dead, none-gone}
use Rattle.orders.proofs.search.step_back.Goals as goal

pub returns-clause-ok : goal.returns-clause-ok
returns-clause-ok g c = λ k X ts w n. subst (λ p. HasGone k X ts p c.take_back.new.self) (sym c.progress_of.ensures) (none-gone k X ts c.args.walk.now c.take_back.new.self c.in_ok-taken.taken w n c.in_ok-taken.ensures.ok)

pub returns-clause-remembers : goal.returns-clause-remembers
returns-clause-remembers g c = λ k X ts w n d. c.in_ok-remember.ensures.kept k ts d (none-dead k X ts c.args.walk.now w n)
