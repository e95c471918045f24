use Rattle.std.proofs.Common.{rules}
use denote.Param.Send.{sendable}
use Rattle.restore.proofs.workers.fn.Workers.read_beside.join+arg2+FnOnce.call_once.Goals as goal

pub join+arg2-requires : goal.join+arg2-requires
join+arg2-requires g c = search (rules, sendable) depth 60 fits 1000
