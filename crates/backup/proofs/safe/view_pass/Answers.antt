use Rattle.std.proofs.Common.{◌≡◌, subst, true}
use Rattle.schema.specs.WellFormed.{is_catalog}
use Rattle.backup.specs.Backed.{seen_by}
use Rattle.backup.proofs.ViewedLemmas.{viewed_dumpable}
use Rattle.backup.proofs.safe.view_pass.Goals as goal

pub returns-clause-dumpable : goal.returns-clause-dumpable
returns-clause-dumpable g c =
    let p = c.view.new.pass in
    let formed = subst (λ catalog. is_catalog catalog ≡ true) c.catalog.ensures c.well_formed-2.ensures in
    viewed_dumpable (seen_by g.J.Naming.opening g.J.Naming.most p) p.session c.views_are_backups.ensures c.views_are_sound.ensures c.reads_what_is_dumped.ensures.counted c.view.result c.view.ensures.looked.legal formed c.view.ensures.view
