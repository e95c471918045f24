use Rattle.std.proofs.Common.{◌≡◌, ◌++◌, None, take}
use Rattle.std.specs.List.{fold}
use Rattle.std.specs.Option.{option_copied}
use Rattle.retrace.specs.Items.{lesser_mark}
use Rattle.retrace.proofs.witness.least.least_mark.Given as goal

-- the least so far
abbrev pub invariant-loop-mark : goal.invariant-loop-mark
invariant-loop-mark g l = option_copied l.least ≡ fold (lesser_mark (l.held.before ++ l.held.last)) None (take l.mark-index l.marks)
