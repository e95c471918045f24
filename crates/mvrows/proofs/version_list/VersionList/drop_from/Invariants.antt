use Rattle.std.proofs.Common.{◌≡◌, length}
use Rattle.mvrows.specs.TakenBack.{key_before}
use Rattle.mvrows.proofs.version_list.VersionList.drop_from.Given as goal

abbrev pub invariant-newest : goal.invariant-newest
invariant-newest g l = key_before l.commit l.self ≡ key_before l.commit l.initial.self

abbrev pub decreases-newest : goal.decreases-newest
decreases-newest g l = length l.self.versions
