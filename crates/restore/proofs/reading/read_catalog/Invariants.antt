use Rattle.std.proofs.Common.{◌≡◌, Bool, [], length}
use Rattle.restore.specs.Reading.{Created, lines_of, read_lines}
use Rattle.restore.proofs.reading.read_catalog.Given as goal

-- the tables so far, and the lines that are left
abbrev pub invariant-loop-catalog : goal.invariant-loop-catalog
invariant-loop-catalog g l = (counted : Bool) → read_lines {A = g.row.A.Denot} l.lines.number (Created counted l.catalog) (lines_of l.lines.text.now) ≡ read_lines l.fn.lines.number (Created counted []) (lines_of l.fn.lines.text.now)

abbrev pub decreases-loop-catalog : goal.decreases-loop-catalog
decreases-loop-catalog g l = length l.lines.text.now
