use Rattle.std.proofs.Common.{◌≡◌, [], fold, take}
use Rattle.value.specs.Isolation.{with_doom}
use Rattle.retrace.specs.Dooms.{node, reads}
use Rattle.retrace.proofs.doom.dooms_of.Given as goal

-- the causes of those so far
abbrev pub invariant-loop-pivot : goal.invariant-loop-pivot
invariant-loop-pivot g l = l.causes.items ≡ fold (with_doom node reads l.runs l.committer) [] (take l.pivot-index l.runs)
