-- The pieces of a dump, written in their order though they come in any.
use Rattle.std.specs.Prelude.{ℕ, ◌+◌, ◌≤◌, ◌≡◌, ◌==◌, nat_lt, Bool, true, false, ◌||◌, List, [], ◌++◌, length, take, Option, Some, None, is_some, slice_index_or}
use Rattle.dumpplan.specs.Pieces.{joined}
use Rattle.collector.specs.Written.{WroteSome}

-- A collector's work so far: `texts` are those of all pieces, of which `waiting` has, place by place, the ones that were given and not yet written, and `next` counts those written.
-- The device is the one of this `name`; it had taken the bytes `before` and failed `failures_before` times when the work began, and has now taken `taken` and failed `failures` times. Once it has `failed` nothing more is written.
pub record Gathering : Type 0 where
  pub texts : List (List ℕ)
  pub name : ℕ
  pub before : List ℕ
  pub failures_before : ℕ
  pub taken : List ℕ
  pub failures : ℕ
  pub waiting : List (Option (List ℕ))
  pub next : ℕ
  pub failed : Bool

-- of the same pieces, on the same device
abbrev pub IsSameJob : Gathering → Gathering → Type 0
IsSameJob c d = (d.texts ≡ c.texts) × (d.name ≡ c.name) × (d.before ≡ c.before) × (d.failures_before ≡ c.failures_before)

-- a piece, counted from 0, was written or waits
abbrev pub is_given : Gathering → ℕ → Bool
is_given c k = nat_lt k c.next || is_some (slice_index_or c.waiting k None)

-- the first pieces were written, and the device hasn't failed
abbrev pub IsGoing : Gathering → Type 0
IsGoing c = (c.taken ≡ c.before ++ joined (take c.next c.texts)) × (c.failures ≡ c.failures_before)

-- a beginning of the text was written, and the device has failed once
abbrev pub HasStopped : Gathering → Type 0
HasStopped c = WroteSome c.before c.failures_before (joined c.texts) c.taken c.failures

-- the first pieces were written, until the device failed; what waits are pieces of the text
pub record IsInTurn (c : Gathering) : Type 0 where
  pub places : length c.waiting ≡ length c.texts
  pub next_in : c.next ≤ length c.texts
  pub pieces : (k : ℕ) (b : List ℕ) → slice_index_or c.waiting k None ≡ Some b → b ≡ slice_index_or c.texts k []
  pub going : c.failed ≡ false → IsGoing c
  pub stopped : c.failed ≡ true → HasStopped c

-- the next piece to write is not here
abbrev pub LacksNext : Gathering → Type 0
LacksNext c = c.failed ≡ false → is_some (slice_index_or c.waiting c.next None) ≡ false

-- no piece was given
abbrev pub NoneWaits : ℕ → List (Option (List ℕ)) → Type 0
NoneWaits count places = (length places ≡ count) × ((k : ℕ) → slice_index_or places k None ≡ None)

-- one piece more is given, and nothing was written
abbrev pub Puts : Gathering → ℕ → Gathering → Type 0
Puts c index d = (d.failed ≡ c.failed) × (d.failures ≡ c.failures) × ((k : ℕ) → is_given d k ≡ (is_given c k || (k == index)))

-- the device hasn't failed, and the same pieces are given
abbrev pub GoesOn : Gathering → Gathering → Type 0
GoesOn c d = (d.failed ≡ false) × (d.failures ≡ c.failures) × ((k : ℕ) → is_given d k ≡ is_given c k)

-- the device failed
abbrev pub Stops : Gathering → Gathering → Type 0
Stops c d = (d.failed ≡ true) × (d.failures ≡ c.failures + 1)

-- the next piece was written, or it isn't here
abbrev pub Advances : Gathering → Bool → Gathering → Type 0
Advances c true d = d.next ≡ c.next + 1
Advances c false d = is_some (slice_index_or d.waiting d.next None) ≡ false
