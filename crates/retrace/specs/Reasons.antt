-- What is told of each refusal because of other transactions: the two conflicts of its structure, or the row that another has.
use Rattle.std.specs.Prelude.{◌≡◌, ℕ, Bool, true, false, ◌&&◌, is_some, List}
use Rattle.std.specs.List.{list_any}
use Rattle.value.specs.declared.refusal.Cause.{Cause}
use Rattle.value.specs.declared.refusal.Place.{Place}
use Rattle.value.specs.declared.refusal.Place.TheVariants as place
use Rattle.history.specs.declared.event.Action.{Action}
use Rattle.history.specs.declared.event.Action.TheVariants.{Broken}
use Rattle.retrace.specs.Runs.{Going, is_its}
use Rattle.retrace.specs.Why.{danger_of, taken}

module _ {A : Type 0} where
  -- a text that isn't a statement, which is refused with its own refusal
  abbrev pub is_broken : Action A → Bool
  is_broken (Broken r) = true
  is_broken _ = false

  -- both conflicts of the structure are shown
  abbrev pub ShowsStructure : ℕ → List (Going A) → Cause → Type 0
  ShowsStructure base gs k = (is_some (danger_of base gs k).first ≡ true) × (is_some (danger_of base gs k).second ≡ true)

  -- of what the session's transaction would have written, a row is told that another transaction has
  abbrev pub ShowsRow : List (Going A) → ℕ → Type 0
  ShowsRow gs s = list_any (λ g. is_its s g && is_some (taken gs g)) gs ≡ true

  -- What is told of the refusal of a session that points there; a refusal because of others points nowhere else.
  abbrev pub Explains : ℕ → List (Going A) → ℕ → Place → Type 0
  Explains base gs s (place.Cause k) = ShowsStructure base gs k
  Explains base gs s place.Row = ShowsRow gs s
  Explains base gs s _ = ⊥
