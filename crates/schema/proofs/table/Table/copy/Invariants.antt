use Rattle.std.proofs.Common.{◌≡◌, take}
use Rattle.schema.proofs.table.Table.copy.Given as goal

-- the pages so far
abbrev pub invariant-loop-page : goal.invariant-loop-page
invariant-loop-page g l = l.pages.items ≡ take l.page-index l.page-items
