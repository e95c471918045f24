use Rattle.std.proofs.Common.{is_some, ap}
use Rattle.mvrows.proofs.leaf.raised.Goals as goal

pub returns-in-Some-clause-from : goal.returns-in-Some-clause-from
returns-in-Some-clause-from c = rw c.in-Some.is c.greater.ensures.one

pub returns-in-Some-clause-known : goal.returns-in-Some-clause-known
returns-in-Some-clause-known c = ap is_some c.in-Some.is
