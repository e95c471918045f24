use Rattle.restore.proofs.words.Row.{gives_row}
use Rattle.restore.proofs.rows.insert_read.Goals as goal

pub returns-clause-row : goal.returns-clause-row
returns-clause-row g c = λ line given. gives_row c.args.catalog.now c.args.tables.now c.args.table line c.args.row c.in_ok-row.row c.insert_row.result (λ _. c.insert_row.new.tables) c.in_ok-row.was given c.insert_row.ensures.row
