use Rattle.std.proofs.Common.{◌≡◌, take, drop}
use Rattle.copytext.specs.Reading.{cut, cut_after}
use Rattle.copytext.proofs.FieldLemmas.{behind}
use Rattle.copytext.proofs.fields.field_len.Given as goal

-- the first bytes, in front of the first field of the rest
abbrev pub invariant-loop-i : goal.invariant-loop-i
invariant-loop-i l = cut l.line ≡ behind (take l.i l.line) (cut_after l.is_escaped (drop l.i l.line))
