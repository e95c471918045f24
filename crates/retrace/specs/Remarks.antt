-- Remarks: lines after a reply, for a person.
use Rattle.std.specs.Prelude.{◌≡◌, ℕ, ◌==◌, if◌then◌else◌, List, ◌++◌, codes, map}
use Rattle.std.specs.Fmt.{decimal}
use Rattle.std.specs.List.{flat_map}

-- a newline is written as a space
abbrev pub unbroken : ℕ → ℕ
unbroken b = if b == 10 then 32 else b

-- a remark for session s: its number, ` # `, and a text, in one line
abbrev pub remark_line : ℕ → List ℕ → List ℕ
remark_line s text = decimal s ++ codes " # " ++ map unbroken text ++ codes "\n"

abbrev pub remark_lines : ℕ → List (List ℕ) → List ℕ
remark_lines s texts = flat_map (remark_line s) texts

-- nothing but remarks for session s
abbrev pub AreRemarks : ℕ → List ℕ → Type 0
AreRemarks s lines = (texts : List (List ℕ)) × (lines ≡ remark_lines s texts)
