use Rattle.std.proofs.Common.{sym, subst, ap, ◌∙◌}
use Rattle.mvrows.specs.Versions.{TablesAreBelow}
use Rattle.mvrows.specs.Installing.{installed}
use Rattle.mvrows.specs.Settling.{settled}
use Rattle.mvrows.specs.HeldRows.{rows_held, AreVersioned}
use Rattle.mvrows.proofs.HeldLemmas.{installed-versioned, undoable-below, undone-below}
use Rattle.mvrows.proofs.SettlingLemmas.{settled-versioned}
use Rattle.mvrows.proofs.SettledTablesLemmas.{fresh-installed}
use Rattle.mvrows.proofs.rows.Rows.install_each.Goals as goal

pub put_all-requires-clause-undoable : goal.put_all-requires-clause-undoable
put_all-requires-clause-undoable g c = undoable-below c.args.commit c.self.inside.tables.items (subst (TablesAreBelow c.args.commit) (sym c.self.view_is) c.requires)

pub settle_all-requires : goal.settle_all-requires
settle_all-requires g c = fresh-installed c.args.commit c.args.changes.now (rows_held c.self.inside.tables.items) c.put_all.new.tables.items c.put_all.ensures.undoable c.in-Ok.ensures.ok

pub invariant_of-self : goal.invariant_of-self
invariant_of-self g c =
    subst AreVersioned (sym (c.share_written.ensures ∙ c.settle_all.ensures ∙ ap (settled (record { oldest = c.args.oldest; snapshots = c.args.snapshots.now }) c.args.changes.now) c.in-Ok.ensures.ok))
    (settled-versioned (record { oldest = c.args.oldest; snapshots = c.args.snapshots.now }) c.args.changes.now (installed c.args.commit c.args.changes.now (rows_held c.self.inside.tables.items)) (installed-versioned c.args.commit c.args.changes.now (rows_held c.self.inside.tables.items) c.self.invariant))

pub invariant_of-self-in-Err : goal.invariant_of-self-in-Err
invariant_of-self-in-Err g c = subst AreVersioned (sym (c.share_all.ensures ∙ c.take_all_back.ensures ∙ c.put_all.ensures.undo ∙ undone-below c.args.commit c.self.inside.tables.items c.self.invariant (subst (TablesAreBelow c.args.commit) (sym c.self.view_is) c.requires))) c.self.invariant

pub returns-in-Err-clause-err : goal.returns-in-Err-clause-err
returns-in-Err-clause-err g c = c.share_all.ensures ∙ c.take_all_back.ensures ∙ c.put_all.ensures.undo ∙ undone-below c.args.commit c.self.inside.tables.items c.self.invariant (subst (TablesAreBelow c.args.commit) (sym c.self.view_is) c.requires) ∙ c.self.view_is
