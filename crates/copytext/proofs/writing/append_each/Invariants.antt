use Rattle.std.proofs.Common.{◌≡◌, ◌++◌, take}
use Rattle.copytext.specs.Writing.{escaped}
use Rattle.copytext.proofs.writing.append_each.Given as goal

-- the bytes so far
abbrev pub invariant-loop-byte : goal.invariant-loop-byte
invariant-loop-byte g l = l.out.items ≡ l.fn.out.items ++ escaped (take l.byte-index l.bytes)
