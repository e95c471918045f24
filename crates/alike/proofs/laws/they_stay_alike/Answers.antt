use Rattle.alike.proofs.Steps.{stay_alike}
use Rattle.alike.proofs.laws.they_stay_alike.Goals as goal

pub returns : goal.returns
returns g c = λ o p es fs l m h e. stay_alike o p es fs l m h e
