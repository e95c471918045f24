use Rattle.std.proofs.Common.{◌≡◌, ◌++◌, None, take}
use Rattle.std.specs.List.{fold}
use Rattle.std.specs.Option.{option_copied}
use Rattle.retrace.specs.Items.{lesser_change}
use Rattle.retrace.proofs.witness.least.least_change.Given as goal

-- the least so far
abbrev pub invariant-loop-change : goal.invariant-loop-change
invariant-loop-change g l = option_copied l.least ≡ fold (lesser_change (l.held.before ++ l.held.last)) None (take l.change-index l.changes)
