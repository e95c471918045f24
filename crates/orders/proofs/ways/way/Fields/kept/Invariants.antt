use Rattle.std.proofs.Common.{◌≡◌, replicate}
use Rattle.orders.specs.declared.ways.way.Field.TheVariants as becomes
use Rattle.orders.proofs.ways.way.Fields.kept.Given as goal

abbrev pub invariant-loop-place : goal.invariant-loop-place
invariant-loop-place g l = l.fields.items ≡ replicate l.place becomes.Kept
