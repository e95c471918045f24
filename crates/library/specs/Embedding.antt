-- What a kept server tells of itself; its answers to lines are those of `shell`.
use Rattle.std.specs.Prelude.{◌≡◌, ℕ, true, Option, Some, None, Err, List, [], ◌++◌}
use Rattle.value.specs.declared.refusal.Refusal.{Refusal}
use Rattle.value.specs.declared.refusal.Code.TheVariants.{ObjectNotInPrerequisiteState}
use Rattle.value.specs.Refusals.{of_code}
use Rattle.history.specs.Events.{world}
use Rattle.history.specs.Opening.{Recorded}
use Rattle.audit.specs.Orders.{check_line, order_lines}
use Rattle.backup.specs.Backed.{IsWhole, viewed}

module _ {A : Type 0} where
  -- The session may view no tables.
  abbrev pub IsUnviewed : Recorded A → ℕ → Refusal → Type 0
  IsUnviewed h s e = viewed h s ≡ Err e

  -- The text is a whole dump of the session's safe snapshot; before the server runs, there is none.
  abbrev pub IsDump : Option (Recorded A) → ℕ → List ℕ → Type 0
  IsDump None s text = ⊥
  IsDump (Some h) s text = IsWhole h s [] text

  -- There is no dump for this refusal: the session may view no tables; before the server runs, it has no transaction.
  abbrev pub IsUndumped : Option (Recorded A) → ℕ → Refusal → Type 0
  IsUndumped None s e = e ≡ of_code ObjectNotInPrerequisiteState
  IsUndumped (Some h) s e = IsUnviewed h s e

  -- the serial order of what was committed, and that it is one
  abbrev pub order_in : Option (Recorded A) → List ℕ
  order_in None = check_line true
  order_in (Some h) = order_lines (world h) ++ check_line true
