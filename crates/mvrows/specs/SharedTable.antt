-- A table, and whether views share it whole.
use Rattle.std.specs.Prelude.{false, List, map}
use Rattle.mvrows.specs.declared.owned.Owned.{Owned}
use Rattle.mvrows.specs.declared.owned.Owned.TheVariants.{Own, Shared}
use Rattle.mvrows.specs.HeldRows.{Held}

module _ {A : Type 0} where
  -- a page that a table hasn't for itself
  abbrev pub not_own : Held A → Held A
  not_own h = record h { own = false }

  -- all of these pages shared
  abbrev pub all_shared : List (Held A) → List (Held A)
  all_shared leaves = map not_own leaves

  -- The pages of a table; where views share the table, they share each page.
  abbrev pub held_table : Owned (List (Held A)) A → List (Held A)
  held_table (Own table) = table
  held_table (Shared table) = all_shared table.value
