use Rattle.std.proofs.Common.{◌≡◌, ◌≢◌, ℕ, Bool, true, List, [], length}
use Rattle.std.specs.List.{list_all}
use Rattle.schema.specs.Definition.{columns_of}
use Rattle.schema.specs.Plain.{is_sound}
use Rattle.restore.specs.Lines.{is_row_line}
use Rattle.restore.specs.Reading.{kinds_of}
use Rattle.restore.specs.Rows.{ArePieces, MayRise}
use Rattle.restore.proofs.taking.Taking.{IsTaking, IsKeeping}
use Rattle.restore.proofs.pieces.take_pieces.Given as goal

-- the pieces so far, and those left
abbrev pub invariant-loop-piece : goal.invariant-loop-piece
invariant-loop-piece g l = record {
  rows : (counted : Bool) (size : ℕ) (lines more : List (List ℕ)) → ArePieces size (kinds_of l.catalog l.table) l.fn.pieces.items lines → list_all is_row_line lines ≡ true → more ≢ []
      → IsTaking counted size l.catalog l.table more l.number lines l.fn.tables l.line l.piece-iterator.rest.items l.tables;
  rise : MayRise l.tables (columns_of l.catalog l.table) l.piece-iterator.rest.items;
  same_tables : length l.tables ≡ length l.catalog;
  sound : (size : ℕ) (lines : List (List ℕ)) → ArePieces size (kinds_of l.catalog l.table) l.fn.pieces.items lines → is_sound l.catalog l.fn.tables ≡ true → IsKeeping size l.catalog l.table l.piece-iterator.rest.items l.tables;
}
