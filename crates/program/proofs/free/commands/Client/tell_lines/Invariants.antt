use Rattle.std.proofs.Common.{take}
use Rattle.program.specs.Files.{writing_of}
use Rattle.program.specs.Freely.{AreTold}
use Rattle.program.proofs.free.commands.Client.tell_lines.Given as goal

-- what is printed of the lines so far
abbrev pub invariant-loop-line : goal.invariant-loop-line
invariant-loop-line g l = AreTold (writing_of g.S.Out.OutFile.path g.S.Out.Placed.kept g.S.Out.Device.failures) g.J.Naming.opening g.J.Naming.most (take l.line-index l.lines) l.fn.pass l.text.items l.pass
