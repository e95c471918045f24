-- How a call ends, as numbers.
use Rattle.std.specs.Prelude.{ℕ}
use Rattle.library.specs.declared.ending.End.{End}
use Rattle.library.specs.declared.ending.End.TheVariants.{Done, NoText, Refused, Device, Full, Memory, NoOrder, Unknown, TooMany}

-- the line at which a script ends; 0 where that is no line's matter
abbrev pub line_of : End → ℕ
line_of (Refused line) = line
line_of (Device line) = line
line_of _ = 0

-- the status; 2 and 7 are for a caller whose room is too small, and whose arguments can't be right; 8 is free
abbrev pub status_of : End → ℕ
status_of Done = 0
status_of (Refused line) = 1
status_of Full = 3
status_of Memory = 4
status_of NoText = 5
status_of (Device line) = 6
status_of NoOrder = 9
status_of Unknown = 10
status_of TooMany = 11
