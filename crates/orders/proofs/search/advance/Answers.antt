use Rattle.std.proofs.Common.{◌∙◌, sym, ap, subst, ◌≤◌}
use Rattle.value.proofs.Basics.{IfOk_then}
use Rattle.orders.specs.Turns.{comes}
use Rattle.orders.proofs.search.advance.Goals as goal

pub returns-in-Some-clause-ok : goal.returns-in-Some-clause-ok
returns-in-Some-clause-ok g c =
    IfOk_then c.try_next.result c.try_next.ensures.ok (λ p h X w d.
    h X w (
      ap (λ flags. comes c.args.recorded.now flags c.in-Some.place) (sym c.done.ensures) ∙ c.in-Some.ensures.some,
      λ j l m. ap (λ flags. comes c.args.recorded.now flags j) (sym c.done.ensures) ∙ c.in-Some.ensures.skipped j (subst (λ n. n ≤ j) (sym c.from.ensures) l) m,
    ) d)

pub returns-in-Some-clause-remembers : goal.returns-in-Some-clause-remembers
returns-in-Some-clause-remembers g c = IfOk_then c.try_next.result c.try_next.ensures.ok (λ p h X w d. d)

pub returns-in-None-clause-ok : goal.returns-in-None-clause-ok
returns-in-None-clause-ok g c =
    IfOk_then c.step_back.result c.step_back.ensures.ok (λ p h X w d.
    h c.args.catalog.now X c.args.recorded.now w (λ j l. ap (λ flags. comes c.args.recorded.now flags j) (sym c.done.ensures) ∙ c.in-None.ensures.none j (subst (λ n. n ≤ j) (sym c.from.ensures) l)))

pub returns-in-None-clause-remembers : goal.returns-in-None-clause-remembers
returns-in-None-clause-remembers g c =
    IfOk_then c.step_back.result c.step_back.ensures.remembers (λ p h X w d.
    h c.args.catalog.now X c.args.recorded.now w (λ j l. ap (λ flags. comes c.args.recorded.now flags j) (sym c.done.ensures) ∙ c.in-None.ensures.none j (subst (λ n. n ≤ j) (sym c.from.ensures) l)) d)
