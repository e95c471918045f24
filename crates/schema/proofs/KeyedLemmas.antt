-- A bound, and the range of keys that it starts.
use Rattle.std.proofs.Common.{◌≡◌, Bor, refl}
use Rattle.std.proofs.Math.Bool.{and-true}
use Rattle.std.specs.BTreeMap.Range.{range_contains}
use Rattle.std.specs.declared.ops.Bound.TheVariants as range
use Rattle.value.specs.Order.{value_cmp}
use Rattle.value.specs.declared.key.Key.{Key}
use Rattle.schema.specs.declared.reader.Bound.{Bound}
use Rattle.schema.specs.declared.reader.Bound.TheVariants.{Start, From, After}
use Rattle.schema.specs.Keyed.{start_of}
use Rattle.schema.specs.Rows.{is_within}

module _ {A : Type 0} where
  pub within_is : (bound : Bound (Bor (Key A))) (key : Key A) → range_contains value_cmp (start_of bound) range.Unbounded key ≡ is_within bound key
  within_is Start key = refl
  within_is (From first) key = and-true _
  within_is (After before) key = and-true _
