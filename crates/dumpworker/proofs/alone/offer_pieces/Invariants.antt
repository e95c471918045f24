use Rattle.collector.specs.Gathered.{IsSameJob}
use Rattle.dumpworker.specs.Dumped.{AreGiven}
use Rattle.dumpworker.proofs.alone.offer_pieces.Given as goal

-- the pieces so far were offered
abbrev pub invariant-loop-index : goal.invariant-loop-index
invariant-loop-index g l = IsSameJob l.initial.collector l.collector × AreGiven l.index l.collector
