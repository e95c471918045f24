use Rattle.alike.proofs.Steps.{answers_alike}
use Rattle.alike.proofs.laws.alike_worlds_answer_alike.Goals as goal

pub returns : goal.returns
returns g c = λ o p es fs l m h s a. answers_alike o p es fs l m h s a
