-- The reads that locks keep: as few as cover, with whatever is read later, what all that was read would (SIREAD locks and their promotion, Ports and Grittner, "Serializable Snapshot Isolation in PostgreSQL", section 5.2.1).
use Rattle.std.specs.Prelude.{◌≡◌, ◌≢◌, ℕ, List, [], ◌++◌, Option}
use Rattle.std.specs.Option.{option_map_or}
use Rattle.std.specs.Ordering.{is_eq, nat_cmp}
use Rattle.std.specs.Map.{lookup}
use Rattle.value.specs.declared.value.Value.{Value}
use Rattle.statement.specs.declared.reading.Reading.{Reading}
use Rattle.statement.specs.Cover.{covers, covers_value}

-- What is kept of a transaction's reads.
pub record Reads (A : Type 0) : Type 0 where
  pub before : List (Reading A)  -- for those before its last read
  pub last : List (Reading A)  -- for its last read

module _ {A : Type 0} where
  -- Two lists of readings cover the same, also with more read after them.
  pub record CoverAlike (rs qs : List (Reading A)) : Type 0 where
    pub keys : (more : List (Reading A)) → (t : ℕ) → (k : Value A) → covers (rs ++ more) t k ≡ covers (qs ++ more) t k
    pub references : (more : List (Reading A)) → (t j : ℕ) → (k : Value A) → covers_value (rs ++ more) t j k ≡ covers_value (qs ++ more) t j k

  -- what is kept for all reads
  abbrev pub all_of : Reads A → List (Reading A)
  all_of r = r.before ++ r.last

  -- what is kept for the transaction of a number
  abbrev pub held_by : ℕ → List (ℕ × Reads A) → Option (Reads A)
  held_by n locks = lookup (λ m. is_eq (nat_cmp n m)) locks

  -- for its reads before the last
  abbrev pub before_of : ℕ → List (ℕ × Reads A) → List (Reading A)
  before_of n locks = option_map_or (λ r. r.before) (held_by n locks) []

  -- for all its reads
  abbrev pub reads_of : ℕ → List (ℕ × Reads A) → List (Reading A)
  reads_of n locks = option_map_or all_of (held_by n locks) []

  -- the other transactions keep theirs
  abbrev pub OthersKeep : ℕ → List (ℕ × Reads A) → List (ℕ × Reads A) → Type 0
  OthersKeep n old new = (m : ℕ) → m ≢ n → held_by m new ≡ held_by m old
