-- What was printed, and what of it is held back.
use Rattle.std.specs.Prelude.{◌≡◌, ◌⊎◌, ℕ, Bool, true, false, List, [], Option}
use Rattle.std.specs.Io.KnownBytes.{Appends, append_known}

-- A printer to a stream: the stream's name; the bytes that it has, where that is known; those that are held back; and whether it has failed.
pub record Printed : Type 0 where
  pub stream : ℕ
  pub out : Option (List ℕ)
  pub held : List ℕ
  pub failed : Bool

-- a printer to a stream that has these bytes, before anything was printed
abbrev pub unprinted : ℕ → Option (List ℕ) → Printed
unprinted stream out = record { stream = stream; out = out; held = []; failed = false }

-- all that was printed, where it is known what the stream has
abbrev pub all : Printed → Option (List ℕ)
all p = append_known p.out p.held

-- This text was printed after all before, and nothing has failed in between.
abbrev pub Adds : Printed → Printed → List ℕ → Type 0
Adds p q text = (q.stream ≡ p.stream) × (q.failed ≡ p.failed) × Appends (all p) (all q) text

-- This text was printed after all before; or the stream has failed.
abbrev pub Prints : Printed → Printed → List ℕ → Type 0
Prints p q text = (q.stream ≡ p.stream) × (p.failed ≡ true → q.failed ≡ true) × ((q.failed ≡ true) ⊎ Appends (all p) (all q) text)

-- All that was printed is on the stream, or that has failed.
abbrev pub IsFlushed : Printed → Type 0
IsFlushed p = (p.failed ≡ true) ⊎ (p.held ≡ [])
