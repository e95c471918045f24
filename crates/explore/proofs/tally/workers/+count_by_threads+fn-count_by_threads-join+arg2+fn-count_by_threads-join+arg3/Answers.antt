use Rattle.std.proofs.Common.{◌≡◌, sym, subst, ap, ap₂, ◌∙◌, ◌+◌, map, slice_range, rules, arith}
use Rattle.std.specs.List.{All}
use Rattle.explore.specs.Outcomes.{Counted, all_runs, joined, outcomes_from}
use Rattle.explore.proofs.Held.{held_joined}
use Rattle.explore.proofs.Stretches.{both, room_for_both}
use Rattle.explore.proofs.tally.workers.+count_by_threads+fn-count_by_threads-join+arg2+fn-count_by_threads-join+arg3.Goals as goal

pub join-requires : goal.join-requires
join-requires g t c =
    let n = c.args.stretch.from in
    let m = c.cut-middle.result in
    let l = c.args.stretch.to in
    let f = g.R.Runs.outcome c.args.runs.now in
    let os = g.S.Schedules.orders c.args.schedules.now in
    let early : c.in_ok-all.all.items ≡ outcomes_from n (map f (slice_range os n m)) = search rules in
    let late : c.in_ok-later.field-0.items ≡ outcomes_from m (map f (slice_range os m l)) = search rules in
    omega (arith, ap all_runs early, ap all_runs late, room_for_both f os n m l c.cut-middle.ensures.from c.cut-middle.ensures.to c.requires.within)

pub returns-clause-outcomes : goal.returns-clause-outcomes
returns-clause-outcomes g t c =
    let n = c.args.stretch.from in
    let m = c.cut-middle.result in
    let l = c.args.stretch.to in
    let f = g.R.Runs.outcome c.args.runs.now in
    let os = g.S.Schedules.orders c.args.schedules.now in
    let early : c.in_ok-all.all.items ≡ outcomes_from n (map f (slice_range os n m)) = search rules in
    let late : c.in_ok-later.field-0.items ≡ outcomes_from m (map f (slice_range os m l)) = search rules in
    c.in_ok-join.ensures ∙ ap₂ joined early late ∙ both f os n m l c.cut-middle.ensures.from c.cut-middle.ensures.to c.requires.within

pub returns-clause-held : goal.returns-clause-held
returns-clause-held g t c =
    let P : Counted → Type 0 = λ o. g.R.Runs.holds c.args.runs.now o.text in
    let early : All P c.in_ok-all.all.items = search rules in
    let late : All P c.in_ok-later.field-0.items = search rules in
    subst (All P) (sym c.in_ok-join.ensures) (held_joined (g.R.Runs.holds c.args.runs.now) c.in_ok-all.all.items c.in_ok-later.field-0.items early late)
