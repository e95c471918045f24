use Rattle.std.proofs.Common.{◌≡◌, ◌++◌, drop, false}
use Rattle.sqltext.specs.Source.{in_small_letters}
use Rattle.sqltext.proofs.source.in_small_letters.Given as goal

abbrev pub invariant-loop-byte : goal.invariant-loop-byte
invariant-loop-byte g l = l.small.items ++ in_small_letters l.is_quoted (drop l.byte-index l.text) ≡ in_small_letters false l.text
