-- What is explained to a person.
use Rattle.std.specs.Prelude.{ℕ, Bool, ◌&&◌, nat_le, nat_lt}

-- a byte that a terminal shows, and does nothing else by
abbrev pub is_printable : ℕ → Bool
is_printable b = nat_le 32 b && nat_lt b 127
