use Rattle.std.proofs.lemmas.List.Filters.{FiltersInPlace}
use Rattle.safesnap.specs.Watch.{is_other}
use Rattle.safesnap.proofs.waiting.keep_others.Given as goal

-- the others so far are the first ones
abbrev pub invariant-loop-place : goal.invariant-loop-place
invariant-loop-place l = FiltersInPlace (is_other l.txn) l.initial.numbers l.numbers l.kept l.place
