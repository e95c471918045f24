use Rattle.std.proofs.Common.{sym, ap, subst, ◌∙◌}
use Rattle.value.proofs.Basics.{IfOk_then}
use Rattle.orders.specs.Seen.{AreDead}
use Rattle.orders.specs.Turns.{are_done}
use Rattle.orders.proofs.WalkLemmas.{step-found, step-walk}
use Rattle.orders.proofs.search.explore_from.Goals as goal

pub returns-then-is_complete-clause-ok : goal.returns-then-is_complete-clause-ok
returns-then-is_complete-clause-ok g c =
    IfOk_then c.found_walk.result c.found_walk.ensures.ok (λ f h X s.
    h c.args.catalog.now X c.args.recorded.now (step-found c.args.catalog.now X c.args.recorded.now c.args.walk.now s (ap (are_done c.args.recorded.now) (sym c.done.ensures) ∙ sym c.is_complete.ensures ∙ c.if-is_complete.true)))

pub advance_all-requires-clause-from : goal.advance_all-requires-clause-from
advance_all-requires-clause-from g c = (
  c.requires.from.0,
  c.requires.from.1,
  step-walk c.args.catalog.now c.requires.from.0 c.args.recorded.now c.args.walk.now c.requires.from.2 (ap (are_done c.args.recorded.now) (sym c.done.ensures) ∙ sym c.is_complete.ensures ∙ c.if-is_complete.false),
)

pub advance_all-requires-clause-dead : goal.advance_all-requires-clause-dead
advance_all-requires-clause-dead g c = subst (AreDead c.args.catalog.now c.args.recorded.now) (sym c.in_ok-memory.ensures.ok) tt

pub returns-clause-ok : goal.returns-clause-ok
returns-clause-ok g c =
    IfOk_then c.found_so.result c.found_so.ensures.ok (λ f h X s.
    h c.args.catalog.now X c.args.recorded.now (c.in_ok-progress.ensures.ok X (step-walk c.args.catalog.now X c.args.recorded.now c.args.walk.now s (ap (are_done c.args.recorded.now) (sym c.done.ensures) ∙ sym c.is_complete.ensures ∙ c.if-is_complete.false))))
