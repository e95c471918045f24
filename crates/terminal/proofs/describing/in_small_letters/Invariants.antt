use Rattle.std.proofs.Common.{◌≡◌, map, take}
use Rattle.std.specs.Char.{to_ascii_lowercase}
use Rattle.terminal.proofs.describing.in_small_letters.Given as goal

-- the bytes so far
abbrev pub invariant-loop-byte : goal.invariant-loop-byte
invariant-loop-byte g l = l.small.items ≡ map to_ascii_lowercase (take l.byte-index l.name)
