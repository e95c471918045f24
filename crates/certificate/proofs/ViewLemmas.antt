-- What is said of effects on a recording's board is what the rules say.
use Rattle.std.proofs.Common.{◌≡◌, refl, ℕ, ℤ, Option, Some, None, List}
use Rattle.value.specs.declared.value.Value.{Value}
use Rattle.orders.specs.declared.ways.way.Way.{Way}
use Rattle.orders.specs.Ways as way
use Rattle.certificate.specs.Board.{Effect, Keeps, Leaves, Adds, Unknown}
use Rattle.certificate.specs.Cells.{found_at}
use Rattle.certificate.specs.Knowledge as known
use Rattle.certificate.specs.Recorded as recorded
use Rattle.certificate.specs.Recorded.{board, effect_of}
use Rattle.certificate.specs.Rules as rule
use Rattle.certificate.specs.Views.{View, asking, leaves_state, passes_at}

module _ {A : Type 0} (v : View A) where
  sum-passes : (ws : List (Way A)) (d : ℤ) (o : Option (Option (Value A))) → recorded.passes_sum ws v.cell.column d o ≡ known.passes_sum (board v.recording) v.known (asking v ws) d o
  sum-passes ws d None = refl
  sum-passes ws d (Some s) = refl

  effect-passes : (ws : List (Way A)) (x : ℕ) (e : Effect (Option (Value A))) → recorded.passes ws v.cell.column (found_at x v.cell.spot v.known.findings) e ≡ known.passes (board v.recording) v.known (asking v ws) x v.cell.spot e
  effect-passes ws x Keeps = refl
  effect-passes ws x (Leaves s) = refl
  effect-passes ws x (Adds m d) = sum-passes ws d (found_at x v.cell.spot v.known.findings m)
  effect-passes ws x Unknown = refl

  pub way-passes : (ws : List (Way A)) (x : ℕ) (w : Way A) → recorded.passes ws v.cell.column (found_at x v.cell.spot v.known.findings) (effect_of (way.effect v.cell.spot.key w v.cell.column)) ≡ passes_at v ws x w
  way-passes ws x w = effect-passes ws x (effect_of (way.effect v.cell.spot.key w v.cell.column))

  sum-leaves : (s : Option (Value A)) (d : ℤ) (o : Option (Option (Value A))) → recorded.is_sum s d o ≡ rule.is_sum (board v.recording) v.known s d o
  sum-leaves s d None = refl
  sum-leaves s d (Some u) = refl

  effect-leaves : (s : Option (Value A)) (x : ℕ) (e : Effect (Option (Value A))) → recorded.leaves_same s (found_at x v.cell.spot v.known.findings) e ≡ rule.leaves_same (board v.recording) v.known s x v.cell.spot e
  effect-leaves s x Keeps = refl
  effect-leaves s x (Leaves u) = refl
  effect-leaves s x (Adds m d) = sum-leaves s d (found_at x v.cell.spot v.known.findings m)
  effect-leaves s x Unknown = refl

  pub way-leaves : (s : Option (Value A)) (x : ℕ) (w : Way A) → recorded.leaves_same s (found_at x v.cell.spot v.known.findings) (effect_of (way.effect v.cell.spot.key w v.cell.column)) ≡ leaves_state v s x w
  way-leaves s x w = effect-leaves s x (effect_of (way.effect v.cell.spot.key w v.cell.column))
