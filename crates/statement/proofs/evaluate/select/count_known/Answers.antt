use Rattle.statement.proofs.CountLemmas.{count_of_all}
use Rattle.statement.proofs.evaluate.select.count_known.Goals as goal

pub returns-in-empty-clause-count : goal.returns-in-empty-clause-count
returns-in-empty-clause-count g c = count_of_all c.count_all.result (g.R.SnapshotReader.tables c.args.reader.now) c.args.table c.args.conditions.now c.in-empty.len_below c.count_all.ensures.count
