-- A value that one owner has for itself, or that views share.
use Rattle.std.specs.Prelude.{Bool, true, false}
use Rattle.mvrows.specs.declared.owned.Owned.{Owned}
use Rattle.mvrows.specs.declared.owned.Owned.TheVariants.{Own, Shared}

module _ {T A : Type 0} where
  -- no view shares it
  abbrev pub is_own : Owned T A → Bool
  is_own (Own value) = true
  is_own (Shared shared) = false

  -- what it is, shared or not
  abbrev pub value_in : Owned T A → T
  value_in (Own value) = value
  value_in (Shared shared) = shared.value
