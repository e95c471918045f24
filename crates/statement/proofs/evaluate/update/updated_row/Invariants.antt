use Rattle.std.proofs.Common.{◌≡◌, drop, length}
use Rattle.statement.specs.Evaluation.{assigned}
use Rattle.statement.proofs.evaluate.update.updated_row.Given as goal

-- what is still to be assigned to the fields so far makes the fields of the new row
abbrev pub invariant-loop-assignment : goal.invariant-loop-assignment
invariant-loop-assignment g l = record {
  rest : assigned l.row (drop l.assignment-index l.assignments) l.fields.items ≡ assigned l.row l.assignments l.row.1;
  count : length l.fields.items ≡ length l.row.1;
}
