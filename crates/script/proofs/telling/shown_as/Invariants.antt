use Rattle.std.specs.Prelude.{◌≡◌, true}
use Rattle.std.specs.List.{list_all}
use Rattle.script.specs.Telling.{is_printable}
use Rattle.script.proofs.telling.shown_as.Given as goal

-- what was appended so far is printable
abbrev pub invariant-loop-byte : goal.invariant-loop-byte
invariant-loop-byte g l = list_all is_printable l.shown.items ≡ true
