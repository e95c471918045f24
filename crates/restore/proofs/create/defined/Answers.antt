use Rattle.std.proofs.Common.{ap}
use Rattle.schema.specs.Adding.{defined}
use Rattle.copytext.proofs.ValueLemmas.{ok_answer}
use Rattle.restore.specs.CreateLine.{well_formed}
use Rattle.restore.proofs.words.Create.{answered}
use Rattle.restore.proofs.create.defined.Goals as goal

pub returns-in-Ok : goal.returns-in-Ok
returns-in-Ok g c = ap well_formed (ok_answer c.in-Ok.table (defined c.args.name c.args.columns.items) c.in-Ok.ensures)

pub returns-in_default : goal.returns-in_default
returns-in_default g c = answered _ c.in-Err.refusal c.in-Err.ensures c.in_default.not-OutOfMemory
