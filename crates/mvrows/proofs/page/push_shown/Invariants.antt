use Rattle.std.proofs.Common.{◌≡◌, ◌≤◌, ◌++◌, drop, length, take}
use Rattle.schema.specs.Walking.{lent}
use Rattle.mvrows.specs.Versions.{shown_rows}
use Rattle.mvrows.proofs.page.push_shown.Given as goal

-- the rows so far, and those of the keys left; there are no more than are wanted
abbrev pub invariant-loop-chain : goal.invariant-loop-chain
invariant-loop-chain g l =
    (take l.most (lent l.rows.items ++ shown_rows l.snapshot (drop l.chain-index l.chains)) ≡ take l.most (lent l.fn.rows.items ++ shown_rows l.snapshot l.chains))
    × (length l.rows.items ≤ l.most)
