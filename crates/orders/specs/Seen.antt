-- What a search remembers.
use Rattle.std.specs.Prelude.{Bool, ◌&&◌, List}
use Rattle.std.specs.List.{AllByRecursion}
use Rattle.schema.specs.Definition.{Catalog}
use Rattle.schema.specs.declared.row.Row.{Row}
use Rattle.schema.specs.declared.tables.Tables.{Tables}
use Rattle.schema.specs.Plain.{same}
use Rattle.orders.specs.Explains.{Trace, same_values}
use Rattle.orders.specs.Walks.{IsDead}

-- where no order goes on: which are done, and the tables
pub record Stand (A : Type 0) : Type 0 where
  pub done : List Bool
  pub tables : Tables A

module _ {A : Type 0} where
  abbrev pub same_row : Row A → Row A → Bool
  same_row r s = same r.0 s.0 && same_values r.1 s.1

  -- no order goes on from any of them
  abbrev pub AreDead : Catalog → List (Trace A) → List (Stand A) → Type 0
  AreDead c ts seen = AllByRecursion (λ s. IsDead c ts s.done s.tables) seen
