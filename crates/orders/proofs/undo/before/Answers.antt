use Rattle.std.proofs.Common.{◌∙◌, ap, Some}
use Rattle.orders.proofs.UndoLemmas.{before-found, before-missing}
use Rattle.orders.proofs.undo.before.Goals as goal

pub returns-in_ok-row-in-Some-clause-ok : goal.returns-in_ok-row-in-Some-clause-ok
returns-in_ok-row-in-Some-clause-ok g c =
    c.of_row.ensures
    ∙ before-found c.args.change.now c.args.tables.now c.table-table.result c.key.result.now c.in_ok-row-in-Some.row c.table-table.ensures c.key.ensures (ap Some c.in_ok-row-in-Some.ensures.ok ∙ c.in-Some.ensures)

pub returns-in_ok-key-in-None-clause-ok : goal.returns-in_ok-key-in-None-clause-ok
returns-in_ok-key-in-None-clause-ok g c =
    c.of_absence.ensures
    ∙ before-missing c.args.change.now c.args.tables.now c.table-table.result c.key.result.now c.in_ok-key-in-None.key c.table-table.ensures c.key.ensures (c.in_ok-key-in-None.ensures.ok ∙ c.key-in-None.ensures) c.in-None.ensures
