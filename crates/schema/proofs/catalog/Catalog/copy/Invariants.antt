use Rattle.std.proofs.Common.{◌≡◌, take}
use Rattle.schema.proofs.catalog.Catalog.copy.Given as goal

-- the tables copied so far
abbrev pub invariant-loop-place : goal.invariant-loop-place
invariant-loop-place g l = l.copy ≡ take l.place l.self
