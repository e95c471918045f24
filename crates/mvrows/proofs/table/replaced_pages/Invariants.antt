use Rattle.std.proofs.Common.{◌≡◌, true, take, drop}
use Rattle.std.specs.List.{AllByRecursion}
use Rattle.mvrows.specs.Replacing.{replaced, left}
use Rattle.mvrows.specs.HeldRows.{rows_in, has_keys}
use Rattle.mvrows.proofs.table.replaced_pages.Given as goal

-- the pages so far, and the changes that come to the rest
abbrev pub invariant-loop-leaf : goal.invariant-loop-leaf
invariant-loop-leaf g l = record {
  rows : rows_in l.made.items ≡ replaced l.replacing.table l.replacing.number (drop l.initial.place l.changes) (rows_in (take l.leaf-index l.leaves));
  keys : AllByRecursion (λ h. has_keys h.rows ≡ true) l.made.items;
  left : drop l.place l.changes ≡ left l.replacing.table (drop l.initial.place l.changes) (rows_in (take l.leaf-index l.leaves));
}
