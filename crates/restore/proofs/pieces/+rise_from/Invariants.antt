use Rattle.std.proofs.Common.{length}
use Rattle.restore.proofs.pieces.+rise_from.Given as goal

-- the rows that are left
abbrev pub decreases-rise_from : goal.decreases-rise_from
decreases-rise_from g l = length l.rows.now
