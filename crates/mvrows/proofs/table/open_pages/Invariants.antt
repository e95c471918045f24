use Rattle.std.proofs.Common.{◌≡◌, ◌++◌, map, true}
use Rattle.std.specs.List.{AllByRecursion}
use Rattle.schema.specs.Paged.{joined}
use Rattle.mvrows.specs.Installing.{opened_row}
use Rattle.mvrows.specs.HeldRows.{rows_in, has_keys}
use Rattle.mvrows.proofs.table.open_pages.Given as goal

-- the pages and the page to come so far, and the rows of the pages to come
abbrev pub invariant-loop-moved : goal.invariant-loop-moved
invariant-loop-moved g l = record {
  rows : rows_in l.leaves.items ++ (l.page ++ map opened_row (joined l.moved-iterator.rest.items)) ≡ map opened_row l.fn.rows;
  keys : AllByRecursion (λ h. has_keys h.rows ≡ true) l.leaves.items;
}
