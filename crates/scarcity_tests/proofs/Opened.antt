-- The versions of an opening are below the first commit, in as many tables.
use Rattle.std.proofs.Common.{◌≡◌, ◌∙◌, sym, ap, subst, List, [], ◌∷◌, length, map, arith}
use Rattle.std.proofs.lemmas.List.{length-map}
use Rattle.schema.specs.Rows.{Rows}
use Rattle.schema.specs.declared.tables.Tables.{Tables}
use Rattle.mvrows.specs.Versions.{VersionedRows, RowsAreBelow, TablesAreBelow}
use Rattle.mvrows.specs.Installing.{opened_row, opened}

module _ {A : Type 0} where
  rows_are_below : (rows : Rows A) → RowsAreBelow 1 (map opened_row rows)
  rows_are_below [] = tt
  rows_are_below (row ∷ rows) = ((omega arith, tt), rows_are_below rows)

  opened_are_below : (tables : Tables A) → TablesAreBelow 1 (opened tables)
  opened_are_below [] = tt
  opened_are_below (rows ∷ tables) = (rows_are_below rows, opened_are_below tables)

  pub opened_so : (tables : Tables A) (rows : List (VersionedRows A)) → rows ≡ opened tables → length tables ≡ 3 → TablesAreBelow 1 rows × (length rows ≡ 3)
  opened_so tables rows e three = (subst (λ r. TablesAreBelow 1 r) (sym e) (opened_are_below tables), ap length e ∙ length-map tables (map opened_row) ∙ three)
