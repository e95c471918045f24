use Rattle.std.proofs.Common.{◌≡◌, ◌++◌, All}
use Rattle.server.specs.Calls.{HasClosed}
use Rattle.server.proofs.locked.Locked.close.Given as goal

abbrev pub invariant-loop-pass : goal.invariant-loop-pass
invariant-loop-pass g l = (l.keeper.records ≡ l.initial.core.records) × (l.core ≡ l.initial.core) × (l.yielded ++ l.pass-iterator.rest.items ≡ l.fn.passes.items) × All (λ p. HasClosed p l.initial.core.records) l.yielded
