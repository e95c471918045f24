use Rattle.std.proofs.Common.{◌≡◌, ◌++◌, drop}
use Rattle.statement.specs.Footprint.{reads_referencing}
use Rattle.statement.specs.Walk.{listed}
use Rattle.statement.proofs.footprint.read_referencing.Given as goal

-- what was read so far, and what is read of the tables left
abbrev pub invariant-loop-place : goal.invariant-loop-place
invariant-loop-place g l =
    l.readings.items ++ reads_referencing (listed l.gone) l.referenced l.place (drop l.place l.catalog) ≡ l.initial.readings.items ++ reads_referencing (listed l.gone) l.referenced 0 l.catalog
