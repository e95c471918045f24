-- What tests need: how many tables there are, and which commit is next.
use Rattle.std.proofs.Common.{ℕ, ◌+◌, ◌<◌, List, [], ◌∷◌, arith}
use Rattle.schema.specs.declared.changes.Change.{Change}
use Rattle.mvrows.specs.Versions.{Version, VersionedRows, AreBelow, RowsAreBelow, TablesAreBelow}
use Rattle.mvrows.specs.Installing.{installed}
use Rattle.mvrows.proofs.VersionLemmas.{installed-below}

module _ {A : Type 0} where
  versions-next : (n : ℕ) (vs : List (Version A)) → AreBelow n vs → AreBelow (n + 1) vs
  versions-next n [] below = tt
  versions-next n (v ∷ vs) below = (let lt : v.number < n = below.0 in omega (arith, lt), versions-next n vs below.1)

  rows-next : (n : ℕ) (rows : VersionedRows A) → RowsAreBelow n rows → RowsAreBelow (n + 1) rows
  rows-next n [] below = tt
  rows-next n (r ∷ rs) below = (versions-next n r.versions below.0, rows-next n rs below.1)

  tables-next : (n : ℕ) (tables : List (VersionedRows A)) → TablesAreBelow n tables → TablesAreBelow (n + 1) tables
  tables-next n [] below = tt
  tables-next n (rows ∷ tables) below = (rows-next n rows below.0, tables-next n tables below.1)

  pub installed-next : (n : ℕ) (xs : List (Change A)) (tables : List (VersionedRows A)) → TablesAreBelow n tables → TablesAreBelow (n + 1) (installed n xs tables)
  installed-next n xs tables below = installed-below (n + 1) n xs tables (omega arith) (tables-next n tables below)
