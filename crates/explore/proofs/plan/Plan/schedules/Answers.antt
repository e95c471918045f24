use Rattle.std.proofs.Common.{◌≡◌, ◌≤◌, ◌<◌, ◌^◌, IfSome, IfNone, ap, subst, ◌∙◌, List, ℕ, length}
use Rattle.explore.specs.Interleavings.{interleavings}
use Rattle.explore.specs.Explored.{line_counts, schedules, sessions}
use Rattle.explore.proofs.Counting.{if_some}
use Rattle.explore.proofs.plan.Plan.schedules.Goals as goal

pub returns-clause-some : goal.returns-clause-some
returns-clause-some g c =
    let same = c.in_ok-counts.ensures ∙ c.as_slice.ensures.value ∙ c.self.invariant.0 ∙ ap (λ x. line_counts x.lines sessions) c.self.view_is in
    if_some (λ i. i ≡ c.in_ok-counts.counts.items) (λ i. interleavings i ≡ schedules c.args.self.now) c.of.result (λ i e. ap interleavings (e ∙ same)) c.of.ensures.some

pub returns-clause-counted : goal.returns-clause-counted
returns-clause-counted g c =
    let same = c.in_ok-counts.ensures ∙ c.as_slice.ensures.value ∙ c.self.invariant.0 ∙ ap (λ x. line_counts x.lines sessions) c.self.view_is in
    subst (λ (x : List ℕ). IfSome c.of.result (λ i. length (interleavings x) < 2 ^ 64)) same c.of.ensures.counted

pub returns-clause-more : goal.returns-clause-more
returns-clause-more g c =
    let same = c.in_ok-counts.ensures ∙ c.as_slice.ensures.value ∙ c.self.invariant.0 ∙ ap (λ x. line_counts x.lines sessions) c.self.view_is in
    subst (λ (x : List ℕ). IfNone c.of.result (2 ^ 64 ≤ length (interleavings x))) same c.of.ensures.more
