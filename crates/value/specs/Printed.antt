-- How a bytea is printed (PostgreSQL manual, 8.4.1, the hex format).
use Rattle.std.specs.Prelude.{ℕ, List, ◌++◌, codes}
use Rattle.hex.specs.Hex.{encode_lower}

-- `\x`, and two lower-case hexadecimal digits a byte
abbrev pub bytea_text : List ℕ → List ℕ
bytea_text bytes = codes "\\x" ++ encode_lower bytes
