use Rattle.std.proofs.Common.{◌≡◌, ◌++◌, map}
use Rattle.program.specs.Freely.{AreJoined}
use Rattle.program.proofs.free.serving.ended.Given as goal

-- those so far have ended
abbrev pub invariant-loop-seat : goal.invariant-loop-seat
invariant-loop-seat g l = (l.yielded ++ l.seat-iterator.rest.items ≡ l.fn.seats.items) × (l.passes.items ≡ map (λ s. s.pass) l.yielded) × AreJoined (λ v. v.items) (map (λ s. s.told) l.yielded) l.text.items
