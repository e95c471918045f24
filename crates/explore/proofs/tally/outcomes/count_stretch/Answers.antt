use Rattle.std.proofs.Common.{◌≡◌, sym, subst, ap, ◌∙◌, ◌-◌, ◌<◌, ◌≤◌, [], map, take, drop, slice_range, ℕ, arith}
use Rattle.std.specs.List.{All}
use Rattle.explore.specs.Outcomes.{all_runs, noted, noted_all, outcomes_from, single}
use Rattle.explore.proofs.Held.{held_merged}
use Rattle.explore.proofs.Stretches.{next_run, runs_so_far}
use Rattle.explore.proofs.tally.outcomes.count_stretch.Goals as goal

pub merge-requires : goal.merge-requires
merge-requires g c =
    let f = g.R.Runs.outcome c.args.runs.now in
    let os = g.S.Schedules.orders c.args.schedules.now in
    let n = c.args.from in
    let m = c.loop-number.number in
    let low : n ≤ m = c.loop-number.auto.number in
    let high : m < c.args.to = c.loop-number-test.true in
    omega (arith, ap all_runs c.loop-number.invariant.0, runs_so_far f os n m low (omega (arith, high, c.requires.within)), high, c.ranges.to.fits)

pub loop-number-preserved : goal.loop-number-preserved
loop-number-preserved g c =
    let h = g.R.Runs.holds c.args.runs.now in
    let f = g.R.Runs.outcome c.args.runs.now in
    let os = g.S.Schedules.orders c.args.schedules.now in
    let n = c.args.from in
    let m = c.loop-number.number in
    let low : n ≤ m = c.loop-number.auto.number in
    let high : m < c.args.to = c.loop-number-test.true in (
      c.in_ok-merge.ensures
          ∙ ap (λ x. noted x c.in_ok-text.text.items m) c.loop-number.invariant.0
          ∙ ap (λ t. noted (noted_all [] (map f (take (m - n) (drop n os))) n) t m) (c.in_ok-text.ensures.outcome ∙ ap f (c.as_slice.ensures.value ∙ c.in_ok-order.ensures))
          ∙ sym (next_run f os n m low (omega (arith, high, c.requires.within))),
      subst (All (λ o. h o.text)) (sym c.in_ok-merge.ensures) (held_merged h c.loop-number.found.items (single c.in_ok-text.text.items m) c.loop-number.invariant.1 c.in_ok-text.ensures.holds),
      c.in_ok-text.ensures.kept,
    )

pub returns-clause-outcomes : goal.returns-clause-outcomes
returns-clause-outcomes g c =
    let f = g.R.Runs.outcome c.args.runs.now in
    let os = g.S.Schedules.orders c.args.schedules.now in
    let n = c.args.from in
    let all : c.loop-number.number ≡ c.args.to = omega (arith, c.loop-number-test.false, c.loop-number.auto.number-end, c.requires.order) in
    c.loop-number.invariant.0 ∙ ap (λ (k : ℕ). noted_all [] (map f (take (k - n) (drop n os))) n) all
