use Rattle.std.proofs.Common.{true≢false, sym, ◌∙◌, arith}
use Rattle.schema.specs.Plain.{rows_of}
use Rattle.statement.proofs.HeldLemmas.{held_length}
use Rattle.statement.proofs.ReferenceLemmas.{found_some, none_past}
use Rattle.statement.proofs.evaluate.reference.has_row.Goals as goal

pub get-requires : goal.get-requires
get-requires g c = let len = held_length c.args.catalog.now (g.R.SnapshotReader.tables c.args.reader.now) c.requires in grind (arith, len, c.if-has.ensures)

pub returns-then-has : goal.returns-then-has
returns-then-has g c = c.is_some.ensures ∙ found_some (rows_of (g.R.SnapshotReader.tables c.args.reader.now) c.args.table) c.args.key.now c.get.result c.get.ensures

pub returns-else-has : goal.returns-else-has
returns-else-has g c = c.if-has.false ∙ none_past c.args.catalog.now (g.R.SnapshotReader.tables c.args.reader.now) c.args.table c.args.key.now c.requires (λ lt. true≢false (sym (c.if-has.ensures.1 lt)))
