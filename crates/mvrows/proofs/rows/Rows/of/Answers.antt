use Rattle.std.proofs.Common.{sym, subst}
use Rattle.mvrows.specs.HeldRows.{AreVersioned}
use Rattle.mvrows.proofs.HeldLemmas.{opened-versioned}
use Rattle.mvrows.proofs.rows.Rows.of.Goals as goal

pub invariant_of-result : goal.invariant_of-result
invariant_of-result g c = subst AreVersioned (sym c.in_ok-opening.ensures.ok) (opened-versioned c.args.tables)
