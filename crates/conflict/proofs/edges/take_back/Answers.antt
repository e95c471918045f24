use Rattle.std.proofs.Common.{◌∙◌, sym, ap}
use Rattle.conflict.specs.Undo.{taken_back}
use Rattle.conflict.proofs.Places.{taken_back-push}
use Rattle.conflict.proofs.edges.take_back.Goals as goal

pub loop-note-preserved : goal.loop-note-preserved
loop-note-preserved g c = (
  ap (taken_back c.pop.new.self.items) c.drop_note.ensures.dropped
      ∙ sym (taken_back-push c.pop.new.self.items c.in-Some.note c.loop-note.parties.items)
      ∙ ap (λ xs. taken_back xs c.loop-note.parties.items) (sym c.in-Some.ensures.items)
      ∙ c.loop-note.invariant.0,
  c.drop_note.ensures.sorted,
)
