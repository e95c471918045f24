use Rattle.std.proofs.Common.{◌≡◌, take}
use Rattle.schema.proofs.changes.listed.trees_of.Given as goal

-- the changes so far
abbrev pub invariant-loop-change : goal.invariant-loop-change
invariant-loop-change g l = l.trees ≡ take l.change-index l.list
