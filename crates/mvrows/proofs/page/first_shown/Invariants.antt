use Rattle.std.proofs.Common.{◌≡◌, drop}
use Rattle.std.specs.Prelude.{slice_get}
use Rattle.mvrows.specs.Versions.{shown_rows}
use Rattle.mvrows.proofs.page.first_shown.Given as goal

-- the keys so far show no row
abbrev pub invariant-loop-chain : goal.invariant-loop-chain
invariant-loop-chain g l = slice_get (shown_rows l.snapshot l.chains) 0 ≡ slice_get (shown_rows l.snapshot (drop l.chain-index l.chains)) 0
