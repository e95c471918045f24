use Rattle.std.proofs.Common.{Option, is_some, cond, ap}
use Rattle.mvrows.proofs.page.count_of.Goals as goal

pub returns-in-Some-clause-rows : goal.returns-in-Some-clause-rows
returns-in-Some-clause-rows g c = ap (λ (o : Option _). cond (is_some o) 1 0) c.in-Some.ensures

pub returns-in-None-clause-rows : goal.returns-in-None-clause-rows
returns-in-None-clause-rows g c = ap (λ (o : Option _). cond (is_some o) 1 0) c.in-None.ensures
