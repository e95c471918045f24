use Rattle.std.proofs.Common.{arith}
use Rattle.std.proofs.lemmas.Bool.Decides.{nat_tests}
use Rattle.session.proofs.unspoilt.may_spoil.Goals as goal

pub returns-then-key-lt2 : goal.returns-then-key-lt2
returns-then-key-lt2 c none n = grind (arith, nat_tests)

pub returns-else-key-lt2 : goal.returns-else-key-lt2
returns-else-key-lt2 c none n = grind (arith, nat_tests)
