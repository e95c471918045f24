use Rattle.std.proofs.Common.{◌≡◌, ◌+◌, drop}
use Rattle.retrace.specs.Past.{after_all}
use Rattle.retrace.proofs.past.Past.follow_all.Given as goal

-- the records left go on from here
abbrev pub invariant-loop-entry : goal.invariant-loop-entry
invariant-loop-entry g l =
    (after_all l.catalog l.base (drop l.entry-index l.records) l.self ≡ after_all l.catalog l.base l.records l.initial.self)
    × (l.self.place ≡ l.initial.self.place + l.entry-index)
