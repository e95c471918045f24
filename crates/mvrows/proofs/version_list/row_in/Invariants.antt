use Rattle.std.proofs.Common.{◌≡◌, drop}
use Rattle.mvrows.specs.Stored.{stored_row}
use Rattle.mvrows.proofs.version_list.row_in.Given as goal

-- the versions so far are above the snapshot
abbrev pub invariant-loop-version : goal.invariant-loop-version
invariant-loop-version g l = stored_row l.snapshot l.versions ≡ stored_row l.snapshot (drop l.version-index l.versions)
