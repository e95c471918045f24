use Rattle.std.proofs.Common.{rules}
use denote.Param.Send.{sendable}
use Rattle.restore.proofs.workers.fn.Workers.read_beside.join+arg3+FnOnce.call_once.Goals as goal

pub join+arg3-requires : goal.join+arg3-requires
join+arg3-requires g c = search (rules, sendable) depth 60 fits 1000
