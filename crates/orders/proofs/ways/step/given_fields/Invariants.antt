use Rattle.std.proofs.Common.{◌≡◌, map, take}
use Rattle.orders.specs.declared.ways.way.Field.TheVariants as becomes
use Rattle.orders.proofs.ways.step.given_fields.Given as goal

abbrev pub invariant-loop-value : goal.invariant-loop-value
invariant-loop-value g l = l.fields.items ≡ map becomes.Given (take l.value-index l.values)
