-- Spots and cells of tables.
use Rattle.std.specs.Prelude.{ℕ, ◌==◌, Bool, ◌&&◌, Option, List, find}
use Rattle.std.specs.Option.{option_map}
use Rattle.value.specs.declared.value.Value.{Value}
use Rattle.schema.specs.Plain.{same}
use Rattle.certificate.specs.declared.known.Spot.{Spot}
use Rattle.certificate.specs.Knowledge.{Finding}

module _ {A : Type 0} where
  -- the same key of the same table
  abbrev pub same_spot : Spot A → Spot A → Bool
  same_spot s t = s.table == t.table && same s.key t.key

  -- what a transaction found in a column at a spot, if it is known
  abbrev pub found_at : ℕ → Spot A → List (Finding (Option (Value A)) (Spot A)) → ℕ → Option (Option (Value A))
  found_at x s findings n = option_map (λ f. f.state) (find (λ f. f.place == x && f.cell.column == n && same_spot f.cell.spot s) findings)
