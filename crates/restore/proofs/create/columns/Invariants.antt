use Rattle.std.proofs.Common.{◌≡◌, ◌==◌}
use Rattle.std.specs.List.{slice_split}
use Rattle.std.specs.Option.{option_copied}
use Rattle.restore.specs.CreateLine.{parts_of, other_columns, columns}
use Rattle.restore.proofs.words.Create.{part_left}
use Rattle.restore.proofs.stepwise.Refusals.{front_with}
use Rattle.restore.proofs.create.columns.Given as goal

-- the columns so far, and those that are left
abbrev pub invariant-loop-rest : goal.invariant-loop-rest
invariant-loop-rest g l = front_with l.columns.items (other_columns (parts_of (option_copied l.rest))) ≡ columns (slice_split (λ b. b == 44) l.text)

abbrev pub decreases-loop-rest : goal.decreases-loop-rest
decreases-loop-rest g l = part_left l.rest
