use Rattle.std.proofs.Common.{◌∙◌, ap}
use Rattle.value.proofs.Basics.{IfOk_then}
use Rattle.orders.proofs.WalkLemmas.{begin-path, start_of}
use Rattle.orders.proofs.guided.search_recorded.Goals as goal

pub search_from-requires-clause-from : goal.search_from-requires-clause-from
search_from-requires-clause-from g c = (c.args.tables.now, c.requires.sound, begin-path c.args.catalog.now c.args.tables.now c.args.recorded.now c.in_ok-walk.walk (c.in_ok-walk.ensures.ok ∙ ap (λ n. start_of n c.args.tables.now) c.len.ensures))

pub returns-clause-explains : goal.returns-clause-explains
returns-clause-explains g c =
    IfOk_then c.search_from.result c.search_from.ensures.explains (λ f h. h c.args.tables.now (begin-path c.args.catalog.now c.args.tables.now c.args.recorded.now c.in_ok-walk.walk (c.in_ok-walk.ensures.ok ∙ ap (λ n. start_of n c.args.tables.now) c.len.ensures)))
