use Rattle.std.proofs.Common.{◌≡◌, ◌++◌}
use Rattle.explore.specs.Texts.{tables_text}
use Rattle.explore.proofs.states.append_tables.Given as goal

-- the tables so far
abbrev pub invariant-loop-place : goal.invariant-loop-place
invariant-loop-place g l = l.text.items ≡ l.fn.text.items ++ tables_text l.catalog (g.R.SnapshotReader.tables l.reader) l.place
