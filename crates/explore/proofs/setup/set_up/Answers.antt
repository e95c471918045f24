use Rattle.std.proofs.Common.{◌∙◌, Some, None, ap}
use Rattle.std.proofs.lemmas.Result.{IfErr-weaker}
use Rattle.value.proofs.Basics.{IfOk_then}
use Rattle.explore.specs.Setups.{before_first}
use Rattle.explore.proofs.SetupLemmas.{is_unplanned, last_from_place, sets_up_from}
use Rattle.explore.proofs.setup.set_up.Goals as goal

pub returns-in-Some-clause-sets_up : goal.returns-in-Some-clause-sets_up
returns-in-Some-clause-sets_up g c =
    IfOk_then c.set_up_at.result c.set_up_at.ensures.sets_up (λ s up. sets_up_from c.args.lines.items c.as_slice.result.now (Some c.in-Some.place) c.args.most_events c.args.core s.plan s.turns.items c.as_slice.ensures.value c.in-Some.ensures.place up)

pub returns-in-Some-clause-last : goal.returns-in-Some-clause-last
returns-in-Some-clause-last g c =
    IfOk_then c.set_up_at.result c.set_up_at.ensures.last (λ s is. last_from_place c.args.lines.items c.as_slice.result.now (Some c.in-Some.place) s.last c.as_slice.ensures.value c.in-Some.ensures.place is)

pub returns-in-None-clause-sets_up : goal.returns-in-None-clause-sets_up
returns-in-None-clause-sets_up g c =
    IfOk_then c.setup_of.result c.setup_of.ensures.planned (λ s up. sets_up_from c.args.lines.items c.as_slice.result.now None c.args.most_events c.args.core s.plan s.turns.items c.as_slice.ensures.value c.in-None.ensures.place up)

pub returns-in-None-clause-last : goal.returns-in-None-clause-last
returns-in-None-clause-last g c =
    IfOk_then c.setup_of.result c.setup_of.ensures.last (λ s is. last_from_place c.args.lines.items c.as_slice.result.now None s.last c.as_slice.ensures.value c.in-None.ensures.place (is ∙ c.before_first-last.ensures ∙ ap before_first c.as_slice-in-None.ensures.value))

pub returns-in-Some-clause-none : goal.returns-in-Some-clause-none
returns-in-Some-clause-none g c =
    IfErr-weaker c.set_up_at.result _ _ (λ why none. is_unplanned c.args.lines.items c.as_slice.result.now (Some c.in-Some.place) c.args.most_events c.args.core why c.as_slice.ensures.value c.in-Some.ensures.place none) c.set_up_at.ensures.none

pub returns-in-None-clause-none : goal.returns-in-None-clause-none
returns-in-None-clause-none g c =
    IfErr-weaker c.setup_of.result _ _ (λ why none. is_unplanned c.args.lines.items c.as_slice.result.now None c.args.most_events c.args.core why c.as_slice.ensures.value c.in-None.ensures.place none) c.setup_of.ensures.none
