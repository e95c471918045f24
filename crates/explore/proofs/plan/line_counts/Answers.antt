use Rattle.std.proofs.Common.{◌≡◌, ◌++◌, ◌∷◌, [], ap, sym, ◌∙◌, List, ℕ, arith}
use Rattle.explore.specs.Explored.{line_counts}
use Rattle.explore.proofs.Counting.{none_counted, one_more_counted}
use Rattle.explore.proofs.plan.line_counts.Goals as goal

pub loop-place-init : goal.loop-place-init
loop-place-init g c = c.in_ok-counts.ensures.items ∙ sym (none_counted c.args.lines.now)

pub loop-place-preserved : goal.loop-place-preserved
loop-place-preserved g c =
    c.in_ok-push.ensures.items
    ∙ ap (λ (t : List ℕ). t ++ c.lines_of.result ∷ []) c.loop-place.invariant
    ∙ ap (λ (n : ℕ). line_counts c.args.lines.now c.loop-place.place ++ n ∷ []) c.lines_of.ensures
    ∙ sym (one_more_counted c.args.lines.now c.loop-place.place)

pub returns : goal.returns
returns g c =
    let all : c.loop-place.place ≡ 64 = omega (arith, c.loop-place-test.false, c.loop-place.auto.place-end) in
    c.loop-place.invariant ∙ ap (λ (n : ℕ). line_counts c.args.lines.now n) all
