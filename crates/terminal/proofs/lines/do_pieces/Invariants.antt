use Rattle.std.proofs.Common.{map, take}
use Rattle.terminal.specs.Terminals.{DoesPiece, InTurn}
use Rattle.terminal.proofs.lines.do_pieces.Given as goal

-- the pieces so far were done
abbrev pub invariant-loop-piece : goal.invariant-loop-piece
invariant-loop-piece g l = InTurn (DoesPiece g.H.Handler.answers g.H.Attended.held g.H.Attended.tells) (map (λ x. x.items) (take l.piece-index l.pieces)) l.fn.terminal l.next l.told.items
