use Rattle.std.proofs.Common.{sym, ap, ◌∙◌, length, arith}
use Rattle.mvrows.specs.Versions.{KeyVersions}
use Rattle.mvrows.proofs.ThinningLemmas.{at-below, removed-shorter, thinned_from, thinning-begins, thinning-ends, version-cut, version-kept}
use Rattle.mvrows.proofs.version_list.VersionList.thin.Goals as goal

pub versions-init : goal.versions-init
versions-init g c = thinning-begins c.args.snapshots.now c.in-Some.newest c.args.self.now c.in-Some.ensures

pub overflow_add-place : goal.overflow_add-place
overflow_add-place g c = omega (arith, c.in-Some-number_at.ensures.within)

pub versions-smaller-then-is_shown_to : goal.versions-smaller-then-is_shown_to
versions-smaller-then-is_shown_to g c = omega (arith, at-below c.versions.self.versions c.versions.place c.in-Some-number_at.number (sym c.in-Some-number_at.ensures.number))

pub versions-preserved-then-is_shown_to : goal.versions-preserved-then-is_shown_to
versions-preserved-then-is_shown_to g c =
    version-kept c.args.snapshots.now c.versions.next c.in-Some-number_at.number c.versions.place c.versions.self c.in-Some-number_at.ensures.number (sym c.is_shown_to.ensures ∙ c.if-is_shown_to.true) ∙ c.versions.invariant

pub drop_at-requires : goal.drop_at-requires
drop_at-requires g c = at-below c.versions.self.versions c.versions.place c.in-Some-number_at.number (sym c.in-Some-number_at.ensures.number)

pub versions-smaller : goal.versions-smaller
versions-smaller g c =
    let lt = at-below c.versions.self.versions c.versions.place c.in-Some-number_at.number (sym c.in-Some-number_at.ensures.number) in
    omega (arith, lt, removed-shorter c.versions.self.versions c.versions.place lt, ap (λ (k : KeyVersions _). length k.versions) c.drop_at.ensures)

pub versions-preserved : goal.versions-preserved
versions-preserved g c =
    ap (thinned_from c.args.snapshots.now c.versions.next c.versions.place) c.drop_at.ensures
    ∙ version-cut c.args.snapshots.now c.versions.next c.in-Some-number_at.number c.versions.place c.versions.self c.in-Some-number_at.ensures.number (sym c.is_shown_to.ensures ∙ c.if-is_shown_to.false)
    ∙ c.versions.invariant

pub returns : goal.returns
returns g c = thinning-ends c.args.snapshots.now c.versions.next c.versions.place c.versions.self (sym c.in_default-number_at.is ∙ c.number_at.ensures.number) ∙ c.versions.invariant
