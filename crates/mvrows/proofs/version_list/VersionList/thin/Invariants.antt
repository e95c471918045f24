use Rattle.std.proofs.Common.{◌≡◌, ◌-◌, length}
use Rattle.mvrows.proofs.ThinningLemmas.{thinned, thinned_from}
use Rattle.mvrows.proofs.version_list.VersionList.thin.Given as goal

-- with the versions after the place thinned it is all
abbrev pub invariant-versions : goal.invariant-versions
invariant-versions g l = thinned_from l.snapshots l.next l.place l.self ≡ thinned l.snapshots l.initial.self

abbrev pub decreases-versions : goal.decreases-versions
decreases-versions g l = length l.self.versions - l.place
