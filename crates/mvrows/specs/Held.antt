-- A page of a table, and whether views share it.
use Rattle.mvrows.specs.declared.owned.Owned.{Owned}
use Rattle.mvrows.specs.Versions.{VersionedRows}
use Rattle.mvrows.specs.HeldRows.{Held}
use Rattle.mvrows.specs.Owned.{is_own, value_in}

module _ {A : Type 0} where
  abbrev pub held : Owned (VersionedRows A) A → Held A
  held page = record { own = is_own page; rows = value_in page }
