use Rattle.std.proofs.Common.{◌≤◌, ◌-◌, length, vec_len}
use Rattle.restore.specs.Lines.{AreRowLines}
use Rattle.restore.proofs.lines.row_lines.Given as goal

-- the lines so far, and those that are left
abbrev pub invariant-loop-left : goal.invariant-loop-left
invariant-loop-left g l = AreRowLines l.first l.rows.items l.left × (length l.left.text.now ≤ length l.first.rest.text.now)

abbrev pub decreases-loop-left : goal.decreases-loop-left
decreases-loop-left g l = l.most - vec_len l.rows
