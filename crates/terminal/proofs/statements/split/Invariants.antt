use Rattle.std.proofs.Common.{◌≡◌, ◌++◌, [], false, length, map}
use Rattle.terminal.specs.Statements.{pieces_from}
use Rattle.terminal.proofs.statements.split.Given as goal

-- what is left goes on from here
abbrev pub invariant-loop-rest : goal.invariant-loop-rest
invariant-loop-rest g l = map (λ p. p.items) l.pieces.items ++ pieces_from l.quoted l.piece.items l.rest ≡ pieces_from false [] l.text

abbrev pub decreases-loop-rest : goal.decreases-loop-rest
decreases-loop-rest g l = length l.rest
