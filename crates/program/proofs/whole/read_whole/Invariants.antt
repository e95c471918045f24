use Rattle.std.proofs.Common.{◌<◌, length}
use Rattle.std.specs.Io.KnownBytes.{Consumes}
use Rattle.program.proofs.whole.read_whole.Given as goal

-- what the reader has given so far is what was read
abbrev pub invariant-loop : goal.invariant-loop
invariant-loop g l = record {
  read : Consumes (g.R.Read.remaining l.fn.reader) (g.R.Read.remaining l.reader) l.bytes.items;
  room : 0 < length l.buffer;
}
