use Rattle.std.proofs.Common.{◌≡◌, length, []}
use Rattle.server.specs.Calls.{AreFresh}
use Rattle.server.proofs.shared.passes_of.Given as goal

abbrev pub invariant-loop : goal.invariant-loop
invariant-loop g l = (l.keeper.made ≡ l.counter) × (l.keeper.records ≡ []) × (length l.passes.items ≡ l.counter) × AreFresh l.passes.items
