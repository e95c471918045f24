use Rattle.std.proofs.Common.{sym, map, ◌∙◌}
use Rattle.schema.specs.Plain.{rows_of}
use Rattle.statement.proofs.DeleteLemmas.{unreferenced}
use Rattle.statement.proofs.evaluate.delete.any_names_one.Goals as goal

pub returns-else-any_references : goal.returns-else-any_references
returns-else-any_references g c =
    c.if-any_references.false ∙ sym (unreferenced c.args.table (map (λ row. row.now) c.args.gone.now) c.args.columns.now (rows_of (g.R.SnapshotReader.tables c.args.reader.now) c.args.walked) (sym c.any_references.ensures ∙ c.if-any_references.false))
