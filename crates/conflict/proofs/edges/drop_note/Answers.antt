use Rattle.std.proofs.Common.{subst, sym}
use Rattle.conflict.specs.Undo.{AreSorted}
use Rattle.conflict.proofs.Places.{sorted_no_in, sorted_no_out}
use Rattle.conflict.proofs.edges.drop_note.Goals as goal

pub returns-then-note-clause-sorted : goal.returns-then-note-clause-sorted
returns-then-note-clause-sorted g c = subst AreSorted (sym c.drop_out.ensures) (sorted_no_out c.args.note.1 c.args.note.2 c.args.parties.now.items c.requires)

pub returns-else-note-clause-sorted : goal.returns-else-note-clause-sorted
returns-else-note-clause-sorted g c = subst AreSorted (sym c.drop_in.ensures) (sorted_no_in c.args.note.1 c.args.note.2 c.args.parties.now.items c.requires)
