use Rattle.std.proofs.Common.{sym}
use Rattle.std.proofs.lemmas.List.{append-nil}
use Rattle.statement.proofs.FootprintLemmas.{column_at-some, column_at-none}
use Rattle.statement.proofs.footprint.read_assignment.Goals as goal

pub returns-in-Some-clause-ok : goal.returns-in-Some-clause-ok
returns-in-Some-clause-ok g c = rw (column_at-some c.args.columns.now c.args.assignment.now.column c.in-Some.column.now (sym c.in-Some.ensures)) c.read_assigned.ensures.ok

pub returns-in-None-clause-ok : goal.returns-in-None-clause-ok
returns-in-None-clause-ok g c = rw (column_at-none c.args.columns.now c.args.assignment.now.column (sym c.in-None.ensures)) (sym (append-nil c.args.readings.now.items))
