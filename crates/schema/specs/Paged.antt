-- How the code keeps the rows of a table: page by page.
use Rattle.std.specs.Prelude.{Bool, List}
use Rattle.std.specs.Borrow.{Bor}
use Rattle.std.specs.List.{flat_map}
use Rattle.value.specs.declared.key.Key.{Key}
use Rattle.schema.specs.declared.row.Row.{Row}
use Rattle.schema.specs.declared.reader.Bound.{Bound}
use Rattle.schema.specs.Pages as pages
use Rattle.schema.specs.Rows.{Rows}

module _ {A : Type 0} where
  -- the key of a row
  abbrev pub row_key : Row A → Key A
  row_key row = row.0

  -- the rows of pages, one page after another
  abbrev pub joined : List (Rows A) → Rows A
  joined rows = flat_map (λ page. page) rows

  -- a page has a row
  abbrev pub has_rows : Rows A → Bool
  has_rows rows = pages.has_items rows

  -- keys rise over all pages, and each page has a row
  abbrev pub AreLaidOut : List (Rows A) → Type 0
  AreLaidOut rows = pages.AreLaidOut row_key (λ page. page) rows

  -- no row of a page is within a bound
  abbrev pub is_before : Bound (Bor (Key A)) → Rows A → Bool
  is_before bound page = pages.is_before row_key bound page
