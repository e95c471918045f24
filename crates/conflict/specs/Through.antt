-- The structures that a commit would make, by their first transaction and their pivot.
use Rattle.std.specs.Prelude.{◌≡◌, ℕ, ◌==◌, false, Option, List}
use Rattle.std.specs.List.{filter}
use Rattle.value.specs.declared.refusal.Cause.{Cause}
use Rattle.value.specs.Isolation.{caused, earliest, edge_of, first_some, is_dangerous}
use Rattle.conflict.specs.Tracked.{Party, node_after, reads}

-- the structure of a, b and the earliest that closes it, once t has committed as n
abbrev pub through : ℕ → ℕ → List Party → Party → Party → Option Cause
through t n ps a b = caused (node_after t n) (edge_of (node_after t n) reads) a b (earliest (node_after t n) (edge_of (node_after t n) reads) (filter (is_dangerous (node_after t n) (edge_of (node_after t n) reads) a b) ps))

-- the structure of a and the least pivot, once t has committed as n
abbrev pub from_first : ℕ → ℕ → List Party → Party → Option Cause
from_first t n ps a = first_some (through t n ps a) ps

-- Where the first is another than t, x is the only pivot.
abbrev pub IsThrough : ℕ → ℕ → List Party → Party → Party → Type 0
IsThrough t n ps x a = (a.number == t) ≡ false → from_first t n ps a ≡ through t n ps a x
