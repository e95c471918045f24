-- What a device took of some bytes.
use Rattle.std.specs.Prelude.{ℕ, ◌+◌, ◌≡◌, List, ◌++◌}

-- the bytes begin with these
abbrev pub BeginsWith : List ℕ → List ℕ → Type 0
BeginsWith bytes front = (rest : List ℕ) × (front ++ rest ≡ bytes)

-- all of them, and it didn't fail
abbrev pub WroteAll : List ℕ → ℕ → List ℕ → List ℕ → ℕ → Type 0
WroteAll taken failures bytes taken_now failures_now = (taken_now ≡ taken ++ bytes) × (failures_now ≡ failures)

-- a beginning of them
abbrev pub Began : List ℕ → List ℕ → List ℕ → Type 0
Began taken bytes taken_now = (front : List ℕ) × (taken_now ≡ taken ++ front) × BeginsWith bytes front

-- a beginning of them, and it failed once
abbrev pub WroteSome : List ℕ → ℕ → List ℕ → List ℕ → ℕ → Type 0
WroteSome taken failures bytes taken_now failures_now = Began taken bytes taken_now × (failures_now ≡ failures + 1)
