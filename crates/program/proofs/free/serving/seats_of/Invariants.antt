use Rattle.std.proofs.Common.{◌≡◌, ◌++◌, map, All}
use Rattle.program.proofs.free.serving.seats_of.Given as goal

-- those so far are seated
abbrev pub invariant-loop-pass : goal.invariant-loop-pass
invariant-loop-pass g l = (l.yielded ++ l.pass-iterator.rest.items ≡ l.fn.passes.items) × (map (λ s. s.pass) l.seats.items ≡ l.yielded) × All (λ s. s.lines.now ≡ l.lines) l.seats.items
