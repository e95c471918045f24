use Rattle.std.proofs.Common.{map, take}
use Rattle.restore.specs.Rows.{AreRead}
use Rattle.restore.proofs.rows.read_each.Given as goal

-- the lines so far are read
abbrev pub invariant-loop-line : goal.invariant-loop-line
invariant-loop-line g l = AreRead l.kinds l.rows.items (map (λ line. line.now) (take l.line-index l.lines))
