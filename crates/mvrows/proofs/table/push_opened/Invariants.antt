use Rattle.std.proofs.Common.{◌≡◌, ◌++◌, map, true}
use Rattle.std.specs.List.{AllByRecursion}
use Rattle.mvrows.specs.Installing.{opened_row}
use Rattle.mvrows.specs.HeldRows.{rows_in, has_keys}
use Rattle.mvrows.proofs.table.push_opened.Given as goal

-- the pages and the page to come so far, and the rows to come
abbrev pub invariant-loop-row : goal.invariant-loop-row
invariant-loop-row g l = record {
  rows : rows_in l.leaves.items ++ (l.page ++ map opened_row l.row-iterator.rest.items) ≡ rows_in l.initial.leaves.items ++ (l.fn.page ++ map opened_row l.fn.rows.items);
  keys : AllByRecursion (λ h. has_keys h.rows ≡ true) l.leaves.items;
}
