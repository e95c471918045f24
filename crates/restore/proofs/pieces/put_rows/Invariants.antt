use Rattle.std.proofs.Common.{◌≡◌, ◌≢◌, ◌+◌, ℕ, Bool, true, List, [], length, vec_len}
use Rattle.std.specs.List.{list_all}
use Rattle.schema.specs.Definition.{columns_of}
use Rattle.schema.specs.Plain.{is_sound, rows_of}
use Rattle.restore.specs.Lines.{is_row_line}
use Rattle.restore.specs.Reading.{kinds_of}
use Rattle.restore.specs.Rows.{AreRead, AreStillThere}
use Rattle.restore.proofs.taking.Followed.{IsFollowed}
use Rattle.restore.proofs.taking.Pieces.{IsInserting}
use Rattle.restore.proofs.taking.Taking.{IsKept}
use Rattle.restore.proofs.pieces.put_rows.Given as goal

-- the rows so far, and those left, which may be put after them
abbrev pub invariant-loop-row : goal.invariant-loop-row
invariant-loop-row g l = record {
  rows : (counted : Bool) (lines more : List (List ℕ)) → AreRead (kinds_of l.catalog l.table) l.fn.rows.items lines → list_all is_row_line lines ≡ true → more ≢ []
      → IsInserting counted l.catalog l.table more l.number lines l.fn.tables l.line l.row-iterator.rest.items l.tables;
  room : l.line + length l.row-iterator.rest.items ≡ l.number + vec_len l.fn.rows;
  followed : IsFollowed l.tables (columns_of l.catalog l.table) (rows_of l.tables l.table) l.row-iterator.rest.items;
  stay : AreStillThere l.fn.tables l.tables;
  same_tables : length l.tables ≡ length l.catalog;
  sound : (lines : List (List ℕ)) → AreRead (kinds_of l.catalog l.table) l.fn.rows.items lines → is_sound l.catalog l.fn.tables ≡ true → IsKept l.catalog l.table l.row-iterator.rest.items l.tables;
}
