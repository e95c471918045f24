use Rattle.std.proofs.Common.{◌∙◌, sym, ap, subst}
use Rattle.orders.specs.Turns.{are_done}
use Rattle.orders.specs.Walks.{HasTurned, IsWalk}
use Rattle.orders.proofs.WalkLemmas.{passed, step-found, step-walk, turned}
use Rattle.orders.proofs.search.try_next.Goals as goal

pub returns-then-not-agrees-clause-ok : goal.returns-then-not-agrees-clause-ok
returns-then-not-agrees-clause-ok g c = λ X w m d.
    subst (IsWalk c.args.catalog.now X c.args.recorded.now) (sym c.pass_over.ensures)
    (passed c.args.catalog.now X c.args.recorded.now c.args.walk.now c.go.new.walk c.args.place
    (λ t at. subst (λ b. HasTurned c.args.catalog.now t c.args.walk.now c.args.place b c.go.new.walk) c.if-not-agrees.true (c.in_ok-agrees.ensures.ok t at)) w m)

pub returns-then-is_complete-clause-ok : goal.returns-then-is_complete-clause-ok
returns-then-is_complete-clause-ok g c = λ X w m d.
    step-found c.args.catalog.now X c.args.recorded.now c.go.new.walk
    (turned c.args.catalog.now X c.args.recorded.now c.args.walk.now c.go.new.walk c.args.place
    (λ t at. subst (λ b. HasTurned c.args.catalog.now t c.args.walk.now c.args.place b c.go.new.walk) c.if-not-agrees.false (c.in_ok-agrees.ensures.ok t at)) w m)
    (ap (are_done c.args.recorded.now) (sym c.done.ensures) ∙ sym c.is_complete.ensures ∙ c.if-is_complete.true)

pub returns-clause-ok : goal.returns-clause-ok
returns-clause-ok g c = λ X w m d.
    c.in_ok-leave_known.ensures.ok c.args.catalog.now X c.args.recorded.now
    (step-walk c.args.catalog.now X c.args.recorded.now c.go.new.walk
    (turned c.args.catalog.now X c.args.recorded.now c.args.walk.now c.go.new.walk c.args.place
    (λ t at. subst (λ b. HasTurned c.args.catalog.now t c.args.walk.now c.args.place b c.go.new.walk) c.if-not-agrees.false (c.in_ok-agrees.ensures.ok t at)) w m)
    (ap (are_done c.args.recorded.now) (sym c.done.ensures) ∙ sym c.is_complete.ensures ∙ c.if-is_complete.false))
    d
