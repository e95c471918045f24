use Rattle.std.proofs.Common.{◌≡◌, sym, ap, ◌∙◌}
use Rattle.explore.specs.Sampling.{Sampled}
use Rattle.explore.proofs.Drawn.{length-draws}
use Rattle.explore.proofs.tally.sample.sampling.SampleSchedules.count.Goals as goal

pub returns : goal.returns
returns g c = ap (λ (s : Sampled). s.count) c.self.view_is ∙ sym (length-draws c.args.self.now)
