-- What is asked of the transactions of a world, of any kind, and which of them may be left out of those that are tracked.
use Rattle.std.specs.Prelude.{◌≡◌, ℕ, nat_le, min, Bool, true, false, ◌&&◌, ◌⊎◌, Option, Some, None, List}
use Rattle.std.specs.List.{filter}
use Rattle.std.specs.Option.{option_map}
use Rattle.value.specs.Isolation.{Node, earliest, is_live, is_other}
use Rattle.conflict.specs.Tracked.{Each}

-- the commit, where there is one, is shown by snapshot s
abbrev pub shows : ℕ → Option ℕ → Bool
shows s None = false
shows s (Some m) = nat_le m s

-- the least of a number and of one that there may be
abbrev pub least_of : ℕ → Option ℕ → ℕ
least_of c None = c
least_of c (Some m) = min m c

module _ {T : Type 0} (node : T → Node) (edge : T → T → Bool) where
  -- the number of the first commit to which t has an edge
  abbrev pub first_commit_out : List T → T → Option ℕ
  first_commit_out ts t = option_map (λ u. (node u).commit) (earliest node edge (filter (edge t) ts))

  -- A transaction only reads; no transaction has an edge to it; and no commit that it doesn't see has an edge to one that its snapshot shows (section 4.1).
  pub record IsSafeReader (ts : List T) (t : T) : Type 0 where
    pub reader : (node t).read_write ≡ false
    pub unwritten : Each (λ a. edge a t ≡ false) ts
    pub safe : Each (λ b. Each (λ c. (edge t b && edge b c) ≡ true → nat_le (node c).commit (node t).snapshot ≡ false) ts) ts

  -- each that doesn't pass hasn't committed, or is a safe reader
  abbrev pub AreIdle : (T → Bool) → List T → Type 0
  AreIdle keep ts = Each (λ t. keep t ≡ false → ((node t).committed ≡ false) ⊎ IsSafeReader ts t) ts

module _ {T : Type 0} (node : T → Node) (reads : T → T → Bool) where
  -- each that doesn't pass is another than c, and can't be doomed: it is over, or only reads
  abbrev pub AreSpared : (T → Bool) → T → List T → Type 0
  AreSpared keep c ts = Each (λ t. keep t ≡ false → (is_live node reads c t ≡ false) × (is_other node reads t c ≡ true)) ts
