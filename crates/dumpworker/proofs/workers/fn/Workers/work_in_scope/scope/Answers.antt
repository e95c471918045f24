use Rattle.std.proofs.Common.{◌≤◌, arith}
use denote.Param.Send.{sendable}
use Rattle.std.proofs.Crossing as heap
use Rattle.std.proofs.CrossingOver as over
use Rattle.dumpworker.proofs.Crossing.{Shelf-send}
use Rattle.dumpworker.proofs.source.Source.TheSendSync as source
use Rattle.dumpworker.proofs.counter.Counter.TheSendSync as counter
use Rattle.dumpworker.proofs.counter.Drawer.TheSendSync as drawer
use Rattle.dumpworker.proofs.workers.Workers.TheSendSync as workers
use Rattle.dumpworker.proofs.workers.fn.Workers.work_in_scope.scope.Goals as goal

pub work-requires-clause-draws : goal.work-requires-clause-draws
work-requires-clause-draws g c κs within =
    let i = c.loop.invariant in
    let few = c.requires.jobs in
    let end = c.loop.auto.counter-end in
    let left = i.2 in
    let some = few.0 in
    let most = few.1 in
    let reached : c.loop.counter ≤ c.captures.jobs = end (omega arith) in
    omega arith

-- what a worker is lent, and its right to draw, may cross to its thread
pub spawn-requires-send-F : goal.spawn-requires-send-F
spawn-requires-send-F g c κs within =
    let b = c.requires.bounds in
    let send_a = b.0 in
    let sync_a = b.1 in
    let frees_a = b.2 in
    let sync_r = b.3 in
    let send_w = b.4 in
    let sync_g = b.5 in
    let sync_t = b.6 in
    let send_d = b.7 in
    let sync_d = b.8 in
    search (sendable, heap.crosses, over.crosses, Shelf-send, source.the_sync, counter.the_sync, drawer.the_send, workers.the_sync) depth 60 fits 1000
