use Rattle.std.proofs.Common.{take}
use Rattle.mvrows.proofs.HeldLemmas.{UnderWay}
use Rattle.mvrows.proofs.rows.put_all.Given as goal

-- the changes so far are installed, and could be taken back
abbrev pub invariant-loop-change : goal.invariant-loop-change
invariant-loop-change g l = UnderWay l.commit (take l.change-index l.changes) l.initial.tables.items l.tables.items
