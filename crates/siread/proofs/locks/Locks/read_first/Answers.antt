use Rattle.std.proofs.Common.{◌∙◌, ap}
use Rattle.siread.specs.Reads.{held_by}
use Rattle.siread.proofs.LocksLemmas.{apart-tie}
use Rattle.siread.proofs.locks.Locks.read_first.Goals as goal

pub returns-clause-others : goal.returns-clause-others
returns-clause-others g c = λ m apart. c.in_ok-insert.ensures.updates.2 m (apart-tie c.args.txn.0 m apart) ∙ ap (held_by m) c.self.view_is
