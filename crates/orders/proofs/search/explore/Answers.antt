use Rattle.std.proofs.Common.{◌∙◌, ap}
use Rattle.value.proofs.Basics.{IfOk_then}
use Rattle.orders.proofs.WalkLemmas.{begin-step, start_of}
use Rattle.orders.proofs.search.explore.Goals as goal

pub explore_from-requires-clause-from : goal.explore_from-requires-clause-from
explore_from-requires-clause-from g c = (c.args.tables.now, c.requires.sound, begin-step c.args.catalog.now c.args.tables.now c.args.recorded.now c.in_ok-walk.walk (c.in_ok-walk.ensures.ok ∙ ap (λ n. start_of n c.args.tables.now) c.len.ensures))

pub returns-clause-ok : goal.returns-clause-ok
returns-clause-ok g c =
    IfOk_then c.explore_from.result c.explore_from.ensures.ok (λ f h.
    h c.args.tables.now (begin-step c.args.catalog.now c.args.tables.now c.args.recorded.now c.in_ok-walk.walk (c.in_ok-walk.ensures.ok ∙ ap (λ n. start_of n c.args.tables.now) c.len.ensures)))
