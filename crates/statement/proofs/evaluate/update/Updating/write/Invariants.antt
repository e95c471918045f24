use Rattle.std.proofs.Common.{◌≡◌, Some, map, take}
use Rattle.statement.specs.Evaluation.{updated_row}
use Rattle.statement.specs.Marks.{marks_of}
use Rattle.statement.proofs.WritingLemmas.{change_by}
use Rattle.statement.proofs.evaluate.update.Updating.write.Given as goal

-- the rows so far are written
abbrev pub invariant-loop-row : goal.invariant-loop-row
invariant-loop-row g l = record {
  changes : l.written.changes.items ≡ map (change_by l.table (λ row. Some (updated_row l.self.assignments.now row).1)) (map (λ row. row.now) (take l.row-index l.rows));
  marks :
      l.written.marks.items
      ≡ marks_of l.self.catalog.now (g.R.SnapshotReader.tables l.self.reader.now) (map (change_by l.table (λ row. Some (updated_row l.self.assignments.now row).1)) (map (λ row. row.now) (take l.row-index l.rows)));
}
