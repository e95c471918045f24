use Rattle.std.proofs.Common.{◌≡◌, ◌++◌, map, take, drop}
use Rattle.session.specs.Unspoilt.{parts, unspoilt_in_place}
use Rattle.session.proofs.unspoilt.leave_all_unspoilt.Given as goal

-- those so far are left, the rest are as they were
abbrev pub invariant-loop-snapshot : goal.invariant-loop-snapshot
invariant-loop-snapshot l = l.snapshots ≡ map (unspoilt_in_place (parts l.key) l.commits) (take l.snapshot-index l.initial.snapshots) ++ drop l.snapshot-index l.initial.snapshots
