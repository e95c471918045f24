-- What is read of paths, and what is written to them.
use Rattle.std.specs.Prelude.{◌≡◌, ◌≢◌, ℕ, List, [], Option, codes, if◌then◌else◌, IfSome}
use Rattle.std.specs.Str.{bytes_eq}
use Rattle.program.specs.declared.fault.Fault.{Fault}
use Rattle.program.specs.declared.fault.Fault.TheVariants as fault

-- These bytes are all that was there, where it is known what was.
abbrev pub IsAllOf : Option (List ℕ) → List ℕ → Type 0
IsAllOf known bytes = IfSome known (λ there. bytes ≡ there)

-- what is read of a path, where `-` is standard input
abbrev pub read_of : (List ℕ → Option (List ℕ)) → Option (List ℕ) → List ℕ → Option (List ℕ)
read_of held input path = if bytes_eq path (codes "-") then input else held path

-- the failure of the file of this path
abbrev pub IsFileFault : List ℕ → Fault → Type 0
IsFileFault path (fault.Device failed) = failed.now ≡ path
IsFileFault path _ = ⊥

-- which bytes were written to the files of which paths, and the files of which paths have failed
pub record Writing : Type 1 where
  pub writes : List ℕ → List ℕ → Type 0
  pub fails : List ℕ → Type 0

-- A file of this path was made for which nothing was kept, and then these bytes were.
abbrev pub IsWritten : {Out : Type 0} → (Out → List ℕ) → (Out → List ℕ) → List ℕ → List ℕ → Type 0
IsWritten {Out} path_of kept path bytes = (made : Out) × (path_of made ≡ path) × (kept made ≡ []) × (file : Out) × (kept file ≡ bytes)

-- A file of this path was made, and one has failed since.
abbrev pub HasFailed : {Out : Type 0} → (Out → List ℕ) → (Out → ℕ) → List ℕ → Type 0
HasFailed {Out} path_of failures path = (made : Out) × (path_of made ≡ path) × (failures made ≡ 0) × (file : Out) × (failures file ≢ 0)

-- how files of this kind are written, and fail
abbrev pub writing_of : {Out : Type 0} → (Out → List ℕ) → (Out → List ℕ) → (Out → ℕ) → Writing
writing_of path_of kept failures = record { writes = IsWritten path_of kept; fails = HasFailed path_of failures }
