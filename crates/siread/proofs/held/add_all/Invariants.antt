use Rattle.std.proofs.Common.{◌++◌, take}
use Rattle.siread.specs.Adding.{Grows}
use Rattle.siread.specs.Reads.{CoverAlike}
use Rattle.siread.proofs.held.add_all.Given as goal

-- those so far have been added
abbrev pub invariant-loop-reading : goal.invariant-loop-reading
invariant-loop-reading g l = Grows l.settled l.initial.kept.items l.kept.items × CoverAlike l.kept.items (l.initial.kept.items ++ take l.reading-index l.readings)
