use Rattle.std.proofs.Common.{◌≡◌, ◌∙◌, ap, ℕ}
use Rattle.rand_pcg.specs.Lcg.{advance}
use Rattle.rand_pcg.specs.Pcg.{multiplier_128}
use Rattle.explore.specs.Sampling.{generator_at}
use Rattle.explore.proofs.tally.sample.sampling.generator_at.Goals as goal

pub returns : goal.returns
unfolding generator_at
returns c =
    c.advance.ensures
    ∙ ap (λ (k : ℕ). advance 128 multiplier_128 k c.seed_from_u64-generator.result) c.words_before.ensures
    ∙ ap (advance 128 multiplier_128 _) c.seed_from_u64-generator.ensures
