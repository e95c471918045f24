use Rattle.std.proofs.Common.{◌≡◌, ◌≤◌, ◌+◌, length}
use Rattle.explore.specs.Cursors.{AreCursors}
use Rattle.explore.specs.Explored.{after_turns}
use Rattle.explore.specs.Prepared.{ArePrepared}
use Rattle.explore.proofs.running.do_each.Given as goal

-- the turns that are left lead from here to the end, and there is room for them
abbrev pub invariant-loop-left : goal.invariant-loop-left
invariant-loop-left g l =
    (after_turns l.lines l.core l.left ≡ after_turns l.lines l.fn.core l.order)
    × (length l.core.records + length l.left ≤ l.core.most)
    × AreCursors l.lines l.core.records l.cursors
    × ArePrepared l.core.opening.catalog l.lines l.events

abbrev pub decreases-loop-left : goal.decreases-loop-left
decreases-loop-left g l = length l.left
