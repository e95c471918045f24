use Rattle.std.proofs.Common.{◌≡◌, ◌≤◌, take, vec_capacity}
use Rattle.history.proofs.list.copy_records.Given as goal

-- the events so far, in the room for all
abbrev pub invariant-loop-entry : goal.invariant-loop-entry
invariant-loop-entry g l = (l.copy.items ≡ take l.entry-index l.records) × (l.most ≤ vec_capacity l.copy)
