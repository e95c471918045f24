use Rattle.std.proofs.Common.{◌≡◌, take}
use Rattle.mvrows.proofs.version_list.VersionList.copy.Given as goal

-- the versions so far
abbrev pub invariant-loop-version : goal.invariant-loop-version
invariant-loop-version g l = l.versions.items ≡ take l.version-index l.version-items
