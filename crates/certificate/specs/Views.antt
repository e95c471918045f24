-- What is looked at where it is asked from whom a transaction may have a cell.
use Rattle.std.specs.Prelude.{ℕ, Bool, Option, List}
use Rattle.value.specs.declared.value.Value.{Value}
use Rattle.orders.specs.declared.ways.way.Way.{Way}
use Rattle.certificate.specs.declared.known.Spot.{Spot}
use Rattle.certificate.specs.Board.{Effect}
use Rattle.certificate.specs.Knowledge.{Cell, Known, left_from, one_allows, passes}
use Rattle.certificate.specs.Recorded.{Recording, board}
use Rattle.certificate.specs.Rules.{leaves_same}

-- a cell, in a recording of which something is known
pub record View (A : Type 0) : Type 0 where
  pub recording : Recording A
  pub known : Known (Option (Value A)) (Spot A)
  pub cell : Cell (Spot A)

module _ {A : Type 0} (v : View A) where
  -- what is asked of the cell: one of these ways may begin so
  abbrev pub asking : List (Way A) → Option (Value A) → Bool
  asking ws = one_allows (board v.recording) v.known ws v.cell.column

  -- what a way does to the cell
  abbrev pub effect_on : Way A → Effect (Option (Value A))
  effect_on w = (board v.recording).effect v.cell.spot w v.cell.column

  -- of these ways of a transaction those that are left
  abbrev pub left_of : ℕ → List (Way A) → List (Way A)
  left_of x ws = left_from (board v.recording) v.known x v.cell.spot 0 ws

  -- what a way leaves is what is asked
  abbrev pub passes_at : List (Way A) → ℕ → Way A → Bool
  passes_at ws x w = passes (board v.recording) v.known (asking ws) x v.cell.spot (effect_on w)

  -- what a way leaves is this state
  abbrev pub leaves_state : Option (Value A) → ℕ → Way A → Bool
  leaves_state state x w = leaves_same (board v.recording) v.known state x v.cell.spot (effect_on w)
