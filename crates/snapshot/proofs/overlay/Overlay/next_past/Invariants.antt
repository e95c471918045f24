use Rattle.std.proofs.Common.{◌≡◌, length}
use Rattle.schema.specs.Plain.{rows_of, put_all}
use Rattle.snapshot.specs.Overlaid.{next_after, changes_after}
use Rattle.snapshot.proofs.overlay.Overlay.next_past.Given as goal

-- the first row past the key is the first past the one that was asked
abbrev pub invariant-past : goal.invariant-past
invariant-past g l =
    let rows = rows_of (put_all l.self.changes.now (g.R.SnapshotReader.tables l.self.reader.now)) l.table in
    next_after rows l.past ≡ next_after rows l.key

abbrev pub decreases-past : goal.decreases-past
decreases-past g l = length (changes_after l.self.changes.now l.table l.past)
