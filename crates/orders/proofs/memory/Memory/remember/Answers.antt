use Rattle.std.proofs.Common.{sym, subst, ◌∙◌}
use Rattle.std.proofs.lemmas.Result.{on_ok_weaker}
use Rattle.orders.specs.Seen.{AreDead}
use Rattle.orders.proofs.SeenLemmas.{dead-kept}
use Rattle.orders.proofs.memory.Memory.remember.Goals as goal

pub returns-then-not-take_room-clause-kept : goal.returns-then-not-take_room-clause-kept
returns-then-not-take_room-clause-kept g c = λ k ts a d. subst (AreDead k ts) (sym (c.take_room.ensures ∙ c.in_ok-keep_longest.ensures.same)) a

pub returns-clause-kept : goal.returns-clause-kept
returns-clause-kept g c =
    on_ok_weaker c.keep.result (λ e k ts a d.
    dead-kept k ts c.args.self.now c.note.new.self c.keep.new.self c.args.walk.now.done c.args.walk.now.tables (c.in_ok-note.ensures.same ∙ c.take_room.ensures ∙ c.in_ok-keep_longest.ensures.same) e a d)
    c.keep.ensures.ok
