use Rattle.std.proofs.Common.{◌≡◌, map, take}
use Rattle.audit.proofs.keys.numbers_of.Given as goal

-- the numbers so far
abbrev pub invariant-loop-entry : goal.invariant-loop-entry
invariant-loop-entry g l = map (λ n. n.0) l.numbers.items ≡ map (λ e. e.0.0) (take l.entry-index l.entries)
