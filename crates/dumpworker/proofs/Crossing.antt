-- The collector of a dump may go to another thread, as its reader, device and allocator may. Step by step, since a `search` that goes down to the catalog's map runs out of steps.
use denote.Ref.{NamedLft}
use denote.RattleType.{RattleType}
use denote.Param.Send.{IsSend, IsSync, Frees, sendable}
use Rattle.std.proofs.Crossing as heap
use Rattle.std.specs.declared.alloc.Allocator as alloc
use Rattle.std.proofs.CrossingOver as over
use Rattle.value.specs.contracts.bytes.Bytes as Bytes
use Rattle.value.proofs.bytes.Bytes.TheSendSync as bytes
use Rattle.schema.specs.declared.reader.SnapshotReader as reader
use Rattle.schema.specs.contracts.catalog.Catalog as Catalog
use Rattle.schema.proofs.catalog.Catalog.TheSendSync as catalog
use Rattle.dumpplan.specs.contracts.piece.Plan as Plan
use Rattle.dumpplan.proofs.piece.Plan.TheSendSync as plan
use Rattle.collector.specs.declared.device.Device as device
use Rattle.collector.specs.contracts.gather.Collector as Collector
use Rattle.collector.specs.contracts.sequence.Sequence as Sequence
use Rattle.dumpworker.specs.declared.shelf.Job as job
use Rattle.dumpworker.specs.contracts.shelf.Shelf as Shelf

Catalog-sync : (A : RattleType) (g : alloc.Ghosts A.Denot) → IsSync A → IsSync (Catalog.the_row A g)
Catalog-sync A g ya = catalog.the_sync A g ya

Plan-sync : (A : RattleType) (g : alloc.Ghosts A.Denot) → IsSync A → IsSync (Plan.the_row A g)
Plan-sync A g ya = plan.the_sync A g ya

Bytes-send : (A : RattleType) (g : alloc.Ghosts A.Denot) → IsSend A → Frees g g.dealloc_token → IsSend (Bytes.the_row A g)
Bytes-send A g sa f = bytes.the_send A g sa f

module _ (a : NamedLft) (R W A : RattleType) (r : reader.Ghosts R.Denot A.Denot) (w : device.Ghosts W.Denot) (g : alloc.Ghosts A.Denot) where
  Sequence-send : IsSync R → IsSend W → IsSend A → IsSync A → Frees g g.dealloc_token → IsSend (Sequence.the_row a R W A r w g)
  Sequence-send yr sw sa ya f =
      let c = Catalog-sync A g ya in
      let p = Plan-sync A g ya in
      let b = Bytes-send A g sa f in search (sendable, heap.crosses, over.crosses) depth 40

  Collector-send : IsSync R → IsSend W → IsSend A → IsSync A → Frees g g.dealloc_token → IsSend (Collector.the_row a R W A r w g)
  Collector-send yr sw sa ya f = let s = Sequence-send yr sw sa ya f in search sendable depth 20

  Collector-field-send : IsSync R → IsSend W → IsSend A → IsSync A → Frees g g.dealloc_token → IsSend (Collector.the_field a R W A r w g).row
  Collector-field-send yr sw sa ya f = let s = Sequence-send yr sw sa ya f in search sendable depth 20

  module _ (D : RattleType) (j : job.Ghosts D.Denot) where
    pub Shelf-send : IsSync R → IsSend W → IsSend A → IsSync A → Frees g g.dealloc_token → IsSend D → IsSend (Shelf.the_row a R W A D r w j g)
    Shelf-send yr sw sa ya f sd =
        let s = Collector-send yr sw sa ya f in
        let t = Collector-field-send yr sw sa ya f in search sendable depth 20
