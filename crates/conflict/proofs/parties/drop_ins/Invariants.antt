use Rattle.std.proofs.Common.{◌≡◌, map, take}
use Rattle.conflict.specs.Undo.{AreSorted, unread_by}
use Rattle.conflict.proofs.parties.drop_ins.Given as goal

-- those so far don't know it
abbrev pub invariant-loop-writer : goal.invariant-loop-writer
invariant-loop-writer g l = (l.parties.items ≡ map (unread_by l.reader (take l.writer-index l.writers)) l.initial.parties.items) × AreSorted l.parties.items
