use Rattle.std.proofs.Common.{ap}
use Rattle.statement.specs.Conditions.{chosen}
use Rattle.statement.proofs.CountLemmas.{count_shown}
use Rattle.statement.proofs.evaluate.select.number_known.Goals as goal

pub returns-in-Count-clause-shown : goal.returns-in-Count-clause-shown
returns-in-Count-clause-shown g c =
    let X = g.R.SnapshotReader.tables c.args.reader.now in
    count_shown c.count_known.result c.args.projection.now (chosen X c.args.table c.as_slice.result.now) (chosen X c.args.table c.args.conditions.now) c.in-Count.is (ap (chosen X c.args.table) c.as_slice.ensures) c.count_known.ensures.count
