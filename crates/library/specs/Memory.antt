-- A call that had no memory to begin.
use Rattle.std.specs.Prelude.{◌≡◌, ℕ, List, []}
use Rattle.library.specs.declared.ending.End.{End}
use Rattle.library.specs.declared.ending.End.TheVariants as end

-- memory was refused before anything was done, and there is no output
abbrev pub RanOut : End → List ℕ → Type 0
RanOut e text = (e ≡ end.Memory) × (text ≡ [])
