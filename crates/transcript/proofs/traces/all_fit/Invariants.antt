use Rattle.std.proofs.Common.{◌≡◌, length}
use Rattle.orders.specs.Explains.{all_fit}
use Rattle.transcript.proofs.traces.all_fit.Given as goal

-- those before it fit
abbrev pub invariant-loop-left : goal.invariant-loop-left
invariant-loop-left g l = all_fit l.catalog l.left ≡ all_fit l.catalog l.transactions

abbrev pub decreases-loop-left : goal.decreases-loop-left
decreases-loop-left g l = length l.left
