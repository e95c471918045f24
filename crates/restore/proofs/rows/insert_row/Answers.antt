use Rattle.std.proofs.Common.{subst, sym}
use Rattle.schema.specs.Inserting.{inserted}
use Rattle.restore.specs.Rows.{AreStillThere}
use Rattle.restore.proofs.taking.StillThere.{still-same, still-inserted}
use Rattle.restore.proofs.stepwise.Refusals.{taken, refused}
use Rattle.restore.proofs.rows.insert_row.Goals as goal

pub returns-in-Ok-clause-row : goal.returns-in-Ok-clause-row
returns-in-Ok-clause-row g c = taken (inserted c.args.catalog.now c.args.tables.now c.args.table c.args.row) c.insert.new.self c.in-Ok.ensures.answer

pub returns-in-Err-clause-row : goal.returns-in-Err-clause-row
returns-in-Err-clause-row g c = rw c.from.ensures (refused (inserted c.args.catalog.now c.args.tables.now c.args.table c.args.row) c.in-Err.refusal c.in-Err.ensures.answer)

pub returns-in-Ok-clause-stay : goal.returns-in-Ok-clause-stay
returns-in-Ok-clause-stay g c =
    still-inserted c.args.catalog.now c.args.tables.now c.insert.new.self c.args.table c.args.row (taken (inserted c.args.catalog.now c.args.tables.now c.args.table c.args.row) c.insert.new.self c.in-Ok.ensures.answer)

pub returns-in-Err-clause-stay : goal.returns-in-Err-clause-stay
returns-in-Err-clause-stay g c = subst (AreStillThere c.args.tables.now) (sym c.in-Err.ensures.err) (still-same c.args.tables.now)
