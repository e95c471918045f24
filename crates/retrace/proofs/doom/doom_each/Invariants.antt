use Rattle.std.proofs.Common.{◌≡◌, ◌++◌, map, take, drop}
use Rattle.retrace.specs.Dooms.{doomed_by}
use Rattle.retrace.proofs.doom.doom_each.Given as goal

-- those so far are doomed, the rest are as they were
abbrev pub invariant-loop-run : goal.invariant-loop-run
invariant-loop-run g l = l.runs ≡ map (doomed_by l.causes) (take l.run-index l.initial.runs) ++ drop l.run-index l.initial.runs
