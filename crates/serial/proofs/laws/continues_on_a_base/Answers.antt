use Rattle.serial.proofs.base.Order.{continues_on, opens}
use Rattle.serial.proofs.laws.continues_on_a_base.Goals as goal

pub returns-clause-opens : goal.returns-clause-opens
returns-clause-opens g c = λ o es l. opens o es l

pub returns-clause-legal : goal.returns-clause-legal
returns-clause-legal g c = λ o es more l q m. (continues_on o es more l q m).0

pub returns-clause-order : goal.returns-clause-order
returns-clause-order g c = λ o es more l q m. (continues_on o es more l q m).1
