use Rattle.std.proofs.Common.{◌≡◌, ◌≤◌, length, map, take}
use Rattle.session.specs.Unspoilt.{keyed, is_spoilt_by}
use Rattle.session.proofs.unspoilt.any_spoils.Given as goal

-- those that are left answer for all
abbrev pub invariant-loop-at : goal.invariant-loop-at
invariant-loop-at l = (l.at ≤ length l.keys) × (is_spoilt_by (map keyed (take l.at l.keys)) l.snapshot ≡ is_spoilt_by (map keyed l.keys) l.snapshot)

abbrev pub decreases-loop-at : goal.decreases-loop-at
decreases-loop-at l = l.at
