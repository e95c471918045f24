use Rattle.std.proofs.Common.{rules}
use denote.Param.Send.{sendable}
use Rattle.dumpworker.proofs.workers.fn.Workers.work_in_scope.scope+FnOnce.call_once.Goals as goal

pub scope-requires : goal.scope-requires
scope-requires g c = search (rules, sendable) depth 60 fits 1000
