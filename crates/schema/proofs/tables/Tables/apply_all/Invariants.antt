use Rattle.std.proofs.Common.{◌≡◌, take}
use Rattle.schema.specs.Plain.{put_all}
use Rattle.schema.proofs.tables.Tables.apply_all.Given as goal

-- the changes so far are put in
abbrev pub invariant-loop-change : goal.invariant-loop-change
invariant-loop-change g l = l.self ≡ put_all (take l.change-index l.changes) l.initial.self
