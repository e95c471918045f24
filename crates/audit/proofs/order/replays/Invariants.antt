use Rattle.std.proofs.Common.{◌≡◌, length, map, true}
use Rattle.std.specs.List.{list_all}
use Rattle.schema.specs.Plain.{is_sound}
use Rattle.audit.specs.Replay.{AreInPlace, are_fit, present, replays}
use Rattle.audit.proofs.order.replays.Given as goal

-- those left go on from here
abbrev pub invariant-loop-left : goal.invariant-loop-left
invariant-loop-left g l =
    (replays l.catalog l.base l.replay.latest (present l.replay.left.items) (map (λ n. n.0) l.left) l.replay.tables
    ≡ replays l.catalog l.base l.initial.replay.latest (present l.initial.replay.left.items) (map (λ n. n.0) l.numbers) l.initial.replay.tables)
    × (list_all (λ x. are_fit l.catalog x.statements) (present l.replay.left.items) ≡ true)
    × (is_sound l.catalog l.replay.tables ≡ true)
    × AreInPlace l.replay.left.items

abbrev pub decreases-loop-left : goal.decreases-loop-left
decreases-loop-left g l = length l.left
