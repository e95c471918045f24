use Rattle.std.proofs.Common.{◌≡◌, ◌++◌, map, take}
use Rattle.retrace.specs.Remarks.{unbroken}
use Rattle.retrace.proofs.explain.remark.append_unbroken.Given as goal

-- the bytes so far
abbrev pub invariant-loop-byte : goal.invariant-loop-byte
invariant-loop-byte g l = l.text.items ≡ l.fn.text.items ++ map unbroken (take l.byte-index l.words)
