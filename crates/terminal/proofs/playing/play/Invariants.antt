use Rattle.std.proofs.Common.{map, take}
use Rattle.terminal.specs.Terminals.{InTurn, PlaysLine}
use Rattle.terminal.proofs.playing.play.Given as goal

-- the lines so far were typed
abbrev pub invariant-loop-line : goal.invariant-loop-line
invariant-loop-line g l = InTurn (PlaysLine g.H.Handler.answers g.H.Attended.held g.H.Attended.tells) (map (λ x. x.now) (take l.line-index l.lines)) l.fn.terminal l.next l.told.items
