use Rattle.serial.proofs.legal.Histories.{Legal-start, Legal-push}
use Rattle.serial.proofs.laws.grows.Goals as goal

pub returns-clause-start : goal.returns-clause-start
returns-clause-start g c = λ o e. Legal-start o e

pub returns-clause-push : goal.returns-clause-push
returns-clause-push g c = λ o es s a r l f e. Legal-push o es s a r l f e
