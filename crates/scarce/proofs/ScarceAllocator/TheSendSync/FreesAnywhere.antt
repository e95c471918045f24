-- Where any thread may give a block back to the inner allocator, any thread may give one back to `Scarce` over it.
use mir.Syntax.{Dict}
use denote.RattleType.{RattleType}
use denote.Param.Send.{Frees}
use Rattle.std.specs.declared.alloc.Allocator.{Ghosts}
use Rattle.scarce.specs.contracts.ScarceAllocator.TheImpl.{ghosts}

pub frees : (B : RattleType) (g : Ghosts B.Denot) (d e : Dict) → Frees g g.dealloc_token → Frees (ghosts B g d e) (ghosts B g d e).dealloc_token
frees B g d e inner = record { frees = λ scarce. inner.frees scarce.inner }
