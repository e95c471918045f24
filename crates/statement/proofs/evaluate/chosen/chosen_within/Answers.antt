use Rattle.schema.specs.Plain.{rows_of}
use Rattle.statement.proofs.WalkLemmas.{all_at}
use Rattle.statement.proofs.evaluate.chosen.chosen_within.Goals as goal

pub chosen_at-requires-clause-at : goal.chosen_at-requires-clause-at
chosen_at-requires-clause-at g c =
    let rows = rows_of (g.R.SnapshotReader.tables c.args.reader.now) c.args.table in
    all_at c.args.conditions.now c.args.low.now c.args.high.now c.in-Some.key.now rows c.in-Some.ensures c.requires.within
