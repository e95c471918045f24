use Rattle.alike.proofs.Matter.{matter_answers, matter_stays, matter_tells}
use Rattle.alike.proofs.laws.what_matters_tells_the_same.Goals as goal

pub returns : goal.returns
returns g c = record {
  answer = λ o p es fs l m h s a. matter_answers o p es fs l m h s a;
  next = λ o p es fs l m h e f. matter_stays o p es fs l m h e f;
  told = λ o p es fs l m h events all. matter_tells events o p es fs l m h all;
}
