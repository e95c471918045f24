use Rattle.std.proofs.Common.{◌≡◌, ◌-◌, ◌++◌, take, drop, length, map}
use Rattle.mvrows.specs.Pruning.{pruned_versions}
use Rattle.mvrows.specs.Stored.{told}
use Rattle.mvrows.proofs.version_list.kept.Given as goal

-- the versions so far are kept
abbrev pub invariant-loop-version : goal.invariant-loop-version
invariant-loop-version g l = pruned_versions l.oldest (map told l.versions) ≡ take l.kept (map told l.versions) ++ pruned_versions l.oldest (drop l.kept (map told l.versions))

abbrev pub decreases-loop-version : goal.decreases-loop-version
decreases-loop-version g l = length l.versions - l.kept
