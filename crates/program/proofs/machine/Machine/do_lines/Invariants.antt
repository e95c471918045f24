use Rattle.std.proofs.Common.{map}
use Rattle.program.specs.Files.{writing_of}
use Rattle.program.proofs.RunLemmas.{SoFar}
use Rattle.program.proofs.machine.Machine.do_lines.Given as goal

-- the lines so far were done and printed
abbrev pub invariant-loop-line : goal.invariant-loop-line
invariant-loop-line g l = SoFar (writing_of g.F.Out.OutFile.path g.F.Out.Placed.kept g.F.Out.Device.failures) l.way (map (λ x. x.now) l.texts) l.initial.course l.lines l.line-index l.course l.initial.printer l.printer
