-- A bound, as the start of a range of keys in a map.
use Rattle.std.specs.Borrow.{Bor}
use Rattle.std.specs.Range.Bound.{bound_map}
use Rattle.std.specs.declared.ops.Bound.{Bound as RangeBound}
use Rattle.std.specs.declared.ops.Bound.TheVariants as range
use Rattle.value.specs.declared.key.Key.{Key}
use Rattle.value.specs.declared.value.Value.{Value}
use Rattle.schema.specs.declared.reader.Bound.{Bound}
use Rattle.schema.specs.declared.reader.Bound.TheVariants.{Start, From, After}

module _ {A : Type 0} where
  -- a bound as the start of a range of keys
  abbrev pub start_of : Bound (Bor (Key A)) → RangeBound (Value A)
  start_of Start = range.Unbounded
  start_of (From first) = range.Included first.now
  start_of (After before) = range.Excluded before.now

  -- a start of a range by reference
  abbrev pub shown_bound : RangeBound (Bor (Value A)) → RangeBound (Value A)
  shown_bound bound = bound_map (λ key. key.now) bound
