use Rattle.std.proofs.Common.{◌≡◌, None, take}
use Rattle.std.specs.List.{find}
use Rattle.value.specs.Isolation.{is_first}
use Rattle.retrace.specs.Dooms.{node, reads}
use Rattle.retrace.proofs.doom.first_before.Given as goal

-- none so far
abbrev pub invariant-loop-first : goal.invariant-loop-first
invariant-loop-first g l = find (is_first node reads l.committer l.causes l.pivot) (take l.first-index l.runs) ≡ None
