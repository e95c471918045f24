use Rattle.std.proofs.Common.{◌≡◌, ◌∙◌, ap, subst, true}
use Rattle.schema.specs.WellFormed.{is_catalog}
use Rattle.backup.proofs.ViewedLemmas.{viewed_dumpable}
use Rattle.backup.proofs.write.view_session.Goals as goal

pub returns-clause-dumpable : goal.returns-clause-dumpable
returns-clause-dumpable g c =
    let h = c.args.core.now in
    let formed = subst (λ catalog. is_catalog catalog ≡ true) (c.catalog.ensures ∙ ap (λ kept. kept.opening.catalog) c.history.ensures) c.well_formed-2.ensures in
    viewed_dumpable h c.args.session c.views_are_backups.ensures c.views_are_sound.ensures c.reads_what_is_dumped.ensures.counted c.view.result c.is_legal.ensures formed c.view.ensures
