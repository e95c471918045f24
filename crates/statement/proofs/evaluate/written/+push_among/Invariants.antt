use Rattle.std.proofs.Common.{length}
use Rattle.statement.proofs.evaluate.written.+push_among.Given as goal

abbrev pub decreases-push_among : goal.decreases-push_among
decreases-push_among g l = length l.columns.now
