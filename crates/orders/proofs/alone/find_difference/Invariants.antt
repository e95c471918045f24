use Rattle.std.proofs.Common.{◌≡◌, ◌+◌, true, length, map}
use Rattle.schema.specs.Plain.{is_sound}
use Rattle.orders.specs.Explains.{are_fit}
use Rattle.orders.proofs.alone.find_difference.Given as goal

-- those left fit, and the tables are sound
abbrev pub invariant-loop-left : goal.invariant-loop-left
invariant-loop-left g l =
    (are_fit l.catalog (map (λ a. (a.statement, a.reply)) l.left) ≡ true)
    × (is_sound l.catalog l.tables ≡ true)
    × (l.place + length l.left ≡ length l.statements)

abbrev pub decreases-loop-left : goal.decreases-loop-left
decreases-loop-left g l = length l.left
