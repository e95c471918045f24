use Rattle.std.proofs.Common.{◌≡◌, vec_len}
use Rattle.conflict.specs.Undo.{AreSorted, taken_back}
use Rattle.conflict.proofs.edges.take_back.Given as goal

-- what is left to take back leaves the same
abbrev pub invariant-loop-note : goal.invariant-loop-note
invariant-loop-note g l = (taken_back l.left.items l.parties.items ≡ taken_back l.fn.notes.items l.initial.parties.items) × AreSorted l.parties.items

abbrev pub decreases-loop-note : goal.decreases-loop-note
decreases-loop-note g l = vec_len l.left
