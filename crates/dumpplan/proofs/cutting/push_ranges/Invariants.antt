use Rattle.std.proofs.Common.{◌≡◌, ◌++◌, map, None}
use Rattle.dumpplan.specs.declared.piece.Piece.TheVariants.{Rows}
use Rattle.dumpplan.specs.Pieces.{ranges}
use Rattle.dumpplan.proofs.cutting.push_ranges.Given as goal

-- the pieces so far, and those between the keys left
abbrev pub invariant-loop-key : goal.invariant-loop-key
invariant-loop-key g l = l.pieces.items ++ map Rows (ranges l.table l.rows l.from l.key-iterator.rest.items) ≡ l.fn.pieces.items ++ map Rows (ranges l.table l.rows None l.fn.table_cuts.keys.items)
