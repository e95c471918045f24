use Rattle.sqltext.proofs.CreateLemmas.{answered}
use Rattle.sqltext.proofs.create.defined.Goals as goal

pub returns-in_default : goal.returns-in_default
returns-in_default g c = answered _ c.in-Err.refusal c.in-Err.ensures c.in_default.not-OutOfMemory
