use Rattle.std.proofs.Common.{◌≡◌, ap, ◌∙◌, cond, get_or, arith}
use Rattle.explore.specs.Outcomes.{Counted}
use Rattle.explore.specs.Listing.{has}
use Rattle.explore.proofs.Ranks.{room}
use Rattle.explore.proofs.tally.listing.counting.Which.runs_in.Goals as goal

pub overflow_add-runs : goal.overflow_add-runs
overflow_add-runs g c =
    let w = c.args.self in
    let all = c.args.all.now in
    let i = c.loop-ranked.ranked-index in
    let x = c.ranked-item.result in
    let value : c.runs_of-runs.result ≡ cond (has w (get_or all i x)) (get_or all i x).runs 0 = c.runs_of-runs.ensures ∙ ap (λ (o : Counted). cond (has w o) o.runs 0) c.ranked-item.is in
    omega (arith, c.loop-ranked.invariant, value, room w all i x c.loop-ranked-test.true, c.requires)
