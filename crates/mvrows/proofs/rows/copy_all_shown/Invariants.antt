use Rattle.std.proofs.Common.{◌≡◌}
use Rattle.mvrows.proofs.CopiedLemmas.{so_far_copied}
use Rattle.mvrows.proofs.rows.copy_all_shown.Given as goal

-- the tables so far are copied, the rest are empty
abbrev pub invariant-loop-place : goal.invariant-loop-place
invariant-loop-place g l = l.copies ≡ so_far_copied l.snapshot l.place l.tables
