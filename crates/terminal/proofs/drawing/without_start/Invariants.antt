use Rattle.std.proofs.Common.{◌≡◌, drop, map, take}
use Rattle.terminal.proofs.drawing.without_start.Given as goal

-- the lines so far
abbrev pub invariant-loop-line : goal.invariant-loop-line
invariant-loop-line g l = map (λ r. r.now) l.rows.items ≡ map (λ x. drop l.before x.now) (take l.line-index l.lines)
