use Rattle.std.proofs.Common.{◌≡◌, None, take}
use Rattle.std.specs.List.{fold}
use Rattle.std.specs.Option.{option_copied}
use Rattle.retrace.specs.Explained.{later_of}
use Rattle.retrace.proofs.explain.account.last_of.Given as goal

-- the last so far
abbrev pub invariant-loop-run : goal.invariant-loop-run
invariant-loop-run g l = option_copied l.last ≡ fold (later_of l.session) None (take l.run-index l.runs)
