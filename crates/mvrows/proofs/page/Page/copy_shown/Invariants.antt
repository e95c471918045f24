use Rattle.std.proofs.Common.{◌≡◌, take}
use Rattle.mvrows.specs.Versions.{shown_rows}
use Rattle.mvrows.specs.Copied.{with_rows}
use Rattle.mvrows.proofs.page.Page.copy_shown.Given as goal

-- the keys so far are copied
abbrev pub invariant-loop-chain : goal.invariant-loop-chain
invariant-loop-chain g l = l.copies ≡ with_rows l.initial.copies l.table (shown_rows l.snapshot (take l.chain-index l.chain-items))
