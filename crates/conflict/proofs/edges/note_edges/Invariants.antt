use Rattle.std.proofs.Common.{◌≡◌, take}
use Rattle.conflict.specs.Tracked.{with_edges}
use Rattle.conflict.specs.Undo.{AreSorted, taken_back}
use Rattle.conflict.proofs.edges.note_edges.Given as goal

-- those so far are added, and can be taken back
abbrev pub invariant-loop-pair : goal.invariant-loop-pair
invariant-loop-pair g l =
    (l.parties.items ≡ with_edges l.begun (take l.pair-index l.pairs) l.initial.parties.items)
    × (taken_back l.notes.items l.parties.items ≡ taken_back l.initial.notes.items l.initial.parties.items)
    × AreSorted l.parties.items
