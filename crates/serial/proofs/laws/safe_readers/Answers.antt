use Rattle.serial.proofs.safe.Commits.{begun_safe, safe_committed}
use Rattle.serial.proofs.laws.safe_readers.Goals as goal

pub returns : goal.returns
returns g c = record {
  commit = λ o es l s t p e. safe_committed o es l s t p e;
  alone = λ o es l none s m. begun_safe o es l none s m;
}
