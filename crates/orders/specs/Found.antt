-- What the search tells.
use Rattle.schema.specs.Definition.{Catalog}
use Rattle.schema.specs.declared.tables.Tables.{Tables}
use Rattle.std.specs.Prelude.{ℕ, List, Option, Some, None}
use Rattle.orders.specs.declared.search.Answer.{Answer}
use Rattle.orders.specs.declared.search.Answer.TheVariants.{Yes, No, Unknown}
use Rattle.orders.specs.declared.search.Progress.{Progress}
use Rattle.orders.specs.declared.search.Progress.TheVariants.{More, Found, Exhausted}
use Rattle.orders.specs.Walks.{Standing, IsWalk, places_of}
use Rattle.orders.specs.Explains.{Trace, Explains, Unexplained}

-- how a search goes on after the last transaction, of this place, was taken back, or there was none
abbrev pub progress_of : Option ℕ → Progress
progress_of (Some place) = More
progress_of None = Exhausted

module _ {A : Type 0} where
  -- Yes gives an order that explains what was recorded; no says that none does; unknown says nothing.
  abbrev pub Tells : Catalog → Tables A → List (Trace A) → Answer A → Type 0
  Tells c X ts (Yes order) = Explains c X ts order.items
  Tells c X ts No = Unexplained c X ts
  Tells c X ts Unknown = Unit {0}

  -- How a search has gone on, and where it stands: there is more to try, an order is found, or there is none.
  abbrev pub HasGone : Catalog → Tables A → List (Trace A) → Progress → Standing A → Type 0
  HasGone c X ts More w = IsWalk c X ts w
  HasGone c X ts Found w = Explains c X ts (places_of w)
  HasGone c X ts Exhausted w = Unexplained c X ts
