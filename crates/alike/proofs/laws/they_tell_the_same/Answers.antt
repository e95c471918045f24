use Rattle.alike.proofs.Steps.{tell_alike}
use Rattle.alike.proofs.laws.they_tell_the_same.Goals as goal

pub returns : goal.returns
returns g c = λ o p es fs l m h events all. tell_alike events o p es fs l m h all
