use Rattle.std.proofs.Common.{◌≡◌, ◌++◌, ◌&&◌, map}
use Rattle.std.specs.List.{filter, list_all}
use Rattle.certificate.specs.Numbers.{is_key, spot_of}
use Rattle.certificate.proofs.numbers.spots_of.Given as goal

-- the spots of those so far, and of the rest
abbrev pub invariant-loop-value : goal.invariant-loop-value
invariant-loop-value g l =
    (l.list.items ++ map (spot_of l.table) (filter is_key l.value-iterator) ≡ map (spot_of l.table) (filter is_key l.values.keys)) × ((l.are_all && list_all is_key l.value-iterator) ≡ list_all is_key l.values.keys)
