use Rattle.std.proofs.Common.{◌≡◌, true, length, map}
use Rattle.schema.specs.Plain.{is_sound}
use Rattle.orders.specs.Explains.{alone, are_fit}
use Rattle.orders.specs.Undone.{put_back}
use Rattle.orders.proofs.alone.run_alone.Given as goal

-- those left go on from the tables, and what was done can be taken back
abbrev pub invariant-loop-left : goal.invariant-loop-left
invariant-loop-left g l =
    (alone l.catalog (map (λ a. (a.statement, a.reply)) l.left) l.tables ≡ alone l.catalog (map (λ a. (a.statement, a.reply)) l.statements) l.initial.tables)
    × (are_fit l.catalog (map (λ a. (a.statement, a.reply)) l.left) ≡ true)
    × (is_sound l.catalog l.tables ≡ true)
    × (put_back l.back.items l.tables ≡ l.initial.tables)

abbrev pub decreases-loop-left : goal.decreases-loop-left
decreases-loop-left g l = length l.left
