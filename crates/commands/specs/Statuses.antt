-- How the command ends.
use Rattle.std.specs.Prelude.{◌≡◌, ◌⊎◌, ℕ}
use Rattle.orders.specs.declared.search.Answer.{Answer}
use Rattle.orders.specs.declared.search.Answer.TheVariants.{Yes, No, Unknown}

-- the exit status by the answer
abbrev pub status_of : {A : Type 0} → Answer A → ℕ
status_of (Yes order) = 0
status_of No = 5
status_of Unknown = 4

-- the exit status where something is refused, or a file or a standard stream has failed
abbrev pub IsFault : ℕ → Type 0
IsFault n = (n ≡ 1) ⊎ (n ≡ 3)
