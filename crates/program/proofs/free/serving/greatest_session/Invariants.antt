use Rattle.std.proofs.Common.{take, All}
use Rattle.program.specs.Freely.{IsAmong}
use Rattle.program.proofs.free.serving.greatest_session.Given as goal

-- the lines so far are of sessions up to it
abbrev pub invariant-loop-line : goal.invariant-loop-line
invariant-loop-line l = All (λ k. IsAmong l.greatest k.step) (take l.line-index l.lines)
