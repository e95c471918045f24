use Rattle.std.proofs.Common.{◌≡◌, None, take}
use Rattle.std.specs.List.{fold}
use Rattle.std.specs.Option.{option_copied}
use Rattle.retrace.specs.Holds.{upper_key}
use Rattle.retrace.proofs.witness.hold.greatest_key.Given as goal

-- the greatest so far
abbrev pub invariant-loop-reading : goal.invariant-loop-reading
invariant-loop-reading g l = option_copied l.greatest ≡ fold (upper_key l.table) None (take l.reading-index l.readings)
