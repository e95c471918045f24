use Rattle.std.proofs.Common.{sym, ap, ◌∙◌, ◌≤◌, ◌++◌, arith, length, map, take}
use Rattle.std.proofs.lemmas.List.{length-map, append-nil, drop_all}
use Rattle.mvrows.specs.Pruning.{pruned_versions}
use Rattle.mvrows.specs.Stored.{told}
use Rattle.mvrows.proofs.ChainLemmas.{item-below, item-is, item-past, kept-more, kept-row, kept-absence}
use Rattle.mvrows.proofs.version_list.kept.Goals as goal

pub returns-then-is_some : goal.returns-then-is_some
returns-then-is_some g c =
    let items = c.args.versions.now in
    let place = c.loop-version.kept in
    let version = c.in-Some.version.now in
    kept-row c.args.oldest items place version (item-below items place version c.in-Some.ensures.version) (item-is items place version c.in-Some.ensures.version) c.if-version-oldest.true (sym c.is_some.ensures ∙ c.if-is_some.true) c.loop-version.invariant

pub returns-else-is_some : goal.returns-else-is_some
returns-else-is_some g c =
    let items = c.args.versions.now in
    let place = c.loop-version.kept in
    let version = c.in-Some.version.now in
    kept-absence c.args.oldest items place version (item-below items place version c.in-Some.ensures.version) (item-is items place version c.in-Some.ensures.version) c.if-version-oldest.true (sym c.is_some.ensures ∙ c.if-is_some.false) c.loop-version.invariant

pub loop-version-preserved : goal.loop-version-preserved
loop-version-preserved g c =
    let items = c.args.versions.now in
    let place = c.loop-version.kept in
    let version = c.in-Some.version.now in
    kept-more c.args.oldest items place version (item-below items place version c.in-Some.ensures.version) (item-is items place version c.in-Some.ensures.version) c.if-version-oldest.false c.loop-version.invariant

pub returns : goal.returns
returns g c =
    let items = c.args.versions.now in
    let place = c.loop-version.kept in
    let past : length items ≤ place = item-past items place c.in_default.ensures.version in
    let past_all : length (map told items) ≤ place = omega (arith, past, length-map items told) in
    sym (c.loop-version.invariant ∙ ap (λ rest. take place (map told items) ++ pruned_versions c.args.oldest rest) (drop_all place (map told items) past_all) ∙ append-nil (take place (map told items)))
