use Rattle.std.proofs.Common.{◌≡◌, sym, subst, ap, ◌∙◌, ◌++◌, List, ℕ, drop, take, length, sum, arith}
use Rattle.std.specs.List.Sorted.{IsPermutation}
use Rattle.std.proofs.lemmas.List.{take_at}
use Rattle.rand.specs.Shuffle.{shuffled}
use Rattle.rand_core.specs.Steps.{stream_of, steps_u64_low}
use Rattle.rand_pcg.specs.Lcg.{Lcg}
use Rattle.rand_pcg.specs.Pcg.{pcg64}
use Rattle.explore.specs.Interleavings.{IsInterleaving}
use Rattle.explore.specs.Sampling.{Sampled, generator_at, in_a_row}
use Rattle.explore.proofs.Drawn.{drawn_is, interleaves, length-row}
use Rattle.explore.proofs.tally.sample.sampling.Sample.order.Goals as goal

pub returns-clause-drawn : goal.returns-clause-drawn
returns-clause-drawn g c =
    let s = c.args.self.now in
    let row = c.in_ok-order.order in
    let x = c.shuffle.new.order in
    let lines : c.as_slice.result.now ≡ s.lines = c.as_slice.ensures.value ∙ ap (λ (t : Sampled). t.lines) c.self.view_is in
    let in_row : c.as_mut_slice.result.now ≡ in_a_row 0 s.lines = c.as_mut_slice.ensures.value ∙ c.in_ok-order.ensures ∙ ap (in_a_row 0) lines in
    let turns : c.len.result ≡ sum s.lines = omega (arith, c.len.ensures, row.ok.0, ap length c.in_ok-order.ensures, ap (λ (ls : List ℕ). length (in_a_row 0 ls)) lines, length-row 0 s.lines) in
    let whole : length x ≡ row.len = omega (arith, c.shuffle.auto.order, ap length c.as_mut_slice.ensures.value, row.ok.0) in
    let made : c.generator_at-generator.result ≡ generator_at s.seed c.len.result c.args.number =
    c.generator_at-generator.ensures ∙ ap (λ (k : ℕ). generator_at k c.len.result c.args.number) (ap (λ (t : Sampled). t.seed) c.self.view_is) in
    take_at x (drop (length x) row.items) row.len whole
    ∙ c.shuffle.ensures.drawn
    ∙ ap (λ (o : List ℕ). (shuffled o 0 (stream_of (steps_u64_low pcg64) c.generator_at-generator.result)).0) in_row
    ∙ ap (λ (m : Lcg). (shuffled (in_a_row 0 s.lines) 0 (stream_of (steps_u64_low pcg64) m)).0) made
    ∙ drawn_is s c.args.number c.len.result turns

pub returns-clause-interleaving : goal.returns-clause-interleaving
returns-clause-interleaving g c =
    let s = c.args.self.now in
    let row = c.in_ok-order.order in
    let x = c.shuffle.new.order in
    let lines : c.as_slice.result.now ≡ s.lines = c.as_slice.ensures.value ∙ ap (λ (t : Sampled). t.lines) c.self.view_is in
    let in_row : c.as_mut_slice.result.now ≡ in_a_row 0 s.lines = c.as_mut_slice.ensures.value ∙ c.in_ok-order.ensures ∙ ap (in_a_row 0) lines in
    let whole : length x ≡ row.len = omega (arith, c.shuffle.auto.order, ap length c.as_mut_slice.ensures.value, row.ok.0) in
    subst (λ (o : List ℕ). IsInterleaving s.lines o) (sym (take_at x (drop (length x) row.items) row.len whole))
    (interleaves s.lines c.as_mut_slice.result.now x in_row c.shuffle.ensures.permutation)
