use Rattle.std.proofs.Common.{◌≡◌, ◌≤◌, take}
use Rattle.explore.specs.Explored.{events_of}
use Rattle.explore.proofs.running.events_of.Given as goal

-- the events so far
abbrev pub invariant-loop-entry : goal.invariant-loop-entry
invariant-loop-entry g l = (l.count ≡ events_of l.place (take l.entry-index l.entries)) × (l.count ≤ l.entry-index)
