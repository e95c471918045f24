-- How the code keeps changes: what is said of a key, and the two forms of a list of changes.
use Rattle.std.specs.Prelude.{List}
use Rattle.schema.specs.declared.changes.Change.{Change}
use Rattle.schema.specs.declared.changes.Kept.{Kept}
use Rattle.schema.specs.declared.changes.Kept.TheVariants.{ByTable, OfOne}

module _ {A : Type 0} where
  -- the changes, in either form
  abbrev pub kept_changes : Kept A → List (Change A)
  kept_changes (ByTable trees) = trees
  kept_changes (OfOne listed) = listed
