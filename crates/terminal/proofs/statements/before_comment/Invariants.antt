use Rattle.std.proofs.Common.{◌≡◌, ◌++◌, false, length}
use Rattle.terminal.specs.Statements.{before_comment}
use Rattle.terminal.proofs.statements.before_comment.Given as goal

-- what is left goes on from here
abbrev pub invariant-loop-rest : goal.invariant-loop-rest
invariant-loop-rest g l = l.text.items ++ before_comment l.quoted l.rest ≡ before_comment false l.line

abbrev pub decreases-loop-rest : goal.decreases-loop-rest
decreases-loop-rest g l = length l.rest
