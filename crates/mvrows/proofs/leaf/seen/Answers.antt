use Rattle.std.proofs.Common.{ap, sym, subst}
use Rattle.mvrows.specs.Owned.{value_in}
use Rattle.mvrows.specs.Whole.{IsWhole}
use Rattle.mvrows.proofs.leaf.seen.Goals as goal

pub returns-in-Own : goal.returns-in-Own
returns-in-Own g c = subst (IsWhole c.whole.result) (sym (ap value_in c.in-Own.is)) c.whole.ensures
