use Rattle.std.specs.Io.KnownBytes.{Keeps}
use Rattle.program.proofs.writing.write_some.Given as goal

-- the writer has what it had: each write so far has failed
abbrev pub invariant-loop : goal.invariant-loop
invariant-loop g l = Keeps (g.W.Write.contents l.fn.writer) (g.W.Write.contents l.writer)
