use Rattle.statement.proofs.LawsLemmas.{sound_after}
use Rattle.statement.proofs.laws.soundness_is_kept.Goals as goal

pub returns : goal.returns
returns g c = λ c q X f h. sound_after c q X f h
