use Rattle.std.proofs.Common.{rules}
use denote.Param.Send.{sendable}
use Rattle.dumpworker.proofs.workers.fn.Workers.work_in_scope.fn.scope.spawn+FnOnce.call_once.Goals as goal

pub spawn-requires : goal.spawn-requires
spawn-requires g c = search (rules, sendable) depth 60 fits 1000
