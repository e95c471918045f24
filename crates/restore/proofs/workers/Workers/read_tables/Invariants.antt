use Rattle.std.proofs.Common.{◌≡◌, true, length}
use Rattle.schema.specs.Plain.{is_sound}
use Rattle.restore.specs.Reading.{Before, lines_of, read_lines}
use Rattle.restore.proofs.workers.Workers.read_tables.Given as goal

-- the tables so far, and the lines that are left
abbrev pub invariant-loop-place : goal.invariant-loop-place
invariant-loop-place g l = record {
  rows : read_lines l.lines.number (Before l.counted l.catalog l.tables l.place) (lines_of l.lines.text.now) ≡ read_lines l.fn.lines.number (Before l.counted l.catalog l.fn.tables 0) (lines_of l.fn.lines.text.now);
  same_tables : length l.tables ≡ length l.catalog;
  sound : is_sound l.catalog l.fn.tables ≡ true → is_sound l.catalog l.tables ≡ true;
}
