use Rattle.std.proofs.Common.{[], ◌∷◌, ◌++◌, ap, ◌∙◌, arith}
use Rattle.schema.specs.Changing.{changes_from}
use Rattle.schema.proofs.ChangingLemmas.{changes-more}
use Rattle.schema.proofs.changes.trees.make_room.Goals as goal

pub room-preserved : goal.room-preserved
room-preserved g c =
    let pushed = c.in_ok-push.ensures.items ∙ (λ i. c.room.tables.items ++ c.new.ensures i ∷ []) in
    (ap (changes_from 0) pushed ∙ changes-more 0 c.room.tables.items ∙ c.room.invariant.0, λ near few. omega (arith, near, c.in_ok-push.ensures.len, c.room-test.true))
