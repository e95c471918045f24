use Rattle.std.proofs.Common.{◌≡◌, take}
use Rattle.orders.proofs.ways.way.copy_fields.Given as goal

-- those copied so far
abbrev pub invariant-loop-field : goal.invariant-loop-field
invariant-loop-field g l = l.copy.items ≡ take l.field-index l.fields
