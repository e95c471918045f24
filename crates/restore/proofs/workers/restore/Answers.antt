use Rattle.restore.proofs.faults.Whole.{answers_read, answers_stopped}
use Rattle.restore.proofs.workers.restore.Goals as goal

pub returns-in-Ok-clause-dump : goal.returns-in-Ok-clause-dump
returns-in-Ok-clause-dump g c = answers_read c.args.dump.now c.in-Ok.found c.in-Ok.ensures.dump

pub returns-in-Err-clause-dump : goal.returns-in-Err-clause-dump
returns-in-Err-clause-dump g c = answers_stopped c.args.dump.now c.in-Err.error c.fault.result c.in-Err.ensures.dump c.fault.ensures
