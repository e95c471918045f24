use Rattle.std.proofs.Common.{◌≡◌, length, map, true}
use Rattle.schema.specs.Plain.{is_sound}
use Rattle.audit.specs.Replay.{answers_again, are_fit, end_of}
use Rattle.audit.proofs.order.answer_again.Given as goal

-- those left go on from these tables
abbrev pub invariant-loop-left : goal.invariant-loop-left
invariant-loop-left g l =
    (answers_again l.catalog (map (λ a. (a.statement, a.reply)) l.left) l.tables ≡ answers_again l.catalog (map (λ a. (a.statement, a.reply)) l.statements) l.initial.tables)
    × (end_of l.catalog (map (λ a. (a.statement, a.reply)) l.left) l.tables ≡ end_of l.catalog (map (λ a. (a.statement, a.reply)) l.statements) l.initial.tables)
    × (are_fit l.catalog (map (λ a. (a.statement, a.reply)) l.left) ≡ true)
    × (is_sound l.catalog l.tables ≡ true)

abbrev pub decreases-loop-left : goal.decreases-loop-left
decreases-loop-left g l = length l.left
