use Rattle.std.proofs.Common.{length}
use Rattle.restore.specs.Reading.{Within, lines_of, read_lines}
use Rattle.restore.specs.Lines.{AreFound}
use Rattle.restore.specs.Rounds.{AreWaiting, IsReady}
use Rattle.restore.proofs.workers.Workers.read_rows.Given as goal

-- the rows so far, those that wait, the lines that are left, and those of them that are found
abbrev pub invariant-loop-found : goal.invariant-loop-found
invariant-loop-found g l = record {
  rows : AreWaiting l.catalog l.table l.fn.tables (λ counted. read_lines l.fn.lines.number (Within counted l.catalog l.fn.tables l.table) (lines_of l.fn.lines.text.now)) l.round.tables l.round.number l.round.pieces.items l.lines.number (lines_of l.lines.text.now);
  ready : IsReady l.catalog l.table l.round;
  found : AreFound l.lines.number l.lines.text.now l.found;
}

abbrev pub decreases-loop-found : goal.decreases-loop-found
decreases-loop-found g l = length l.lines.text.now
