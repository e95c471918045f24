-- What a handle owns.
use Rattle.std.specs.Prelude.{Bool, true, false, Option, Some, None}
use Rattle.std.specs.Box.Ownership.{box_owns}
use Rattle.std.specs.Coded.{Coded, coded_option}
use Rattle.std_heap.specs.contracts.Global as heap
use Rattle.std_heap.specs.contracts.GlobalAllocator.TheImpl.{ghosts}
use Rattle.library_c.specs.contracts.kept.Kept.{the_row}
use base.Fml.{Fml, feq, fsep}
use denote.RawPtr.{Ptr}

-- the C library's heap, of which boxes are made
abbrev pub the_heap : heap.the_row.Denot
the_heap = record { memory = record { seal = tt } }

-- A pointer leads to a box of this, on that heap.
abbrev pub is_box : Ptr → the_row.Denot → Fml
is_box p x = box_owns (ghosts.dealloc_token the_heap) the_row p x

-- A handle that is open owns the box of what it keeps; one that is shut owns nothing.
abbrev pub kept_owns : Bool → Ptr → Option the_row.Denot → Fml
kept_owns is_open p None = feq Bool is_open false
kept_owns is_open p (Some x) = fsep (feq Bool is_open true) (is_box p x)

abbrev pub kept_coded : Coded (Option the_row.Denot)
kept_coded = coded_option the_row.coded
