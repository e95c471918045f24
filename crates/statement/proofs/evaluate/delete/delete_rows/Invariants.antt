use Rattle.std.proofs.Common.{◌≡◌, map, take}
use Rattle.schema.specs.Plain.{columns_of}
use Rattle.statement.specs.Evaluation.{removes}
use Rattle.statement.specs.Writing.{references_of_rows}
use Rattle.statement.proofs.evaluate.delete.delete_rows.Given as goal

-- the rows so far are written
abbrev pub invariant-loop-row : goal.invariant-loop-row
invariant-loop-row g l = record {
  changes : l.written.changes.items ≡ map (removes l.table) (map (λ row. row.now) (take l.row-index l.rows));
  marks : l.written.marks.items ≡ references_of_rows l.table (columns_of l.catalog l.table) (map (λ row. row.now) (take l.row-index l.rows));
}
