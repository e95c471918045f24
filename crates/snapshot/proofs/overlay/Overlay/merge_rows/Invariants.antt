use Rattle.std.proofs.Common.{◌≡◌, ◌≤◌, length}
use Rattle.std.specs.Option.{option_copied, option_map}
use Rattle.schema.specs.Walking.{lent}
use Rattle.snapshot.proofs.ComingLemmas.{coming_behind}
use Rattle.snapshot.proofs.MergeLemmas.{StandsAt, to_come}
use Rattle.snapshot.proofs.overlay.Overlay.merge_rows.Given as goal

-- the rows so far, those ahead and the first change to come; so far there are no more than are wanted; the walk has the changes behind the first
abbrev pub invariant-both : goal.invariant-both
invariant-both g l =
    StandsAt l.self.changes.now (g.R.SnapshotReader.tables l.self.reader.now) l.fn.table l.fn.after (lent l.rows.items) l.ahead (option_map (λ p. (p.0.now, option_copied p.1)) l.change)
    × (length (lent l.rows.items) ≤ l.most)
    × (l.coming ≡ coming_behind l.self.changes.now l.fn.table (option_map (λ p. (p.0.now, option_copied p.1)) l.change))

abbrev pub decreases-both : goal.decreases-both
decreases-both g l = to_come l.self.changes.now l.fn.table l.ahead (option_map (λ p. (p.0.now, option_copied p.1)) l.change)
