use Rattle.std.proofs.Common.{◌≡◌, drop}
use Rattle.sqltext.specs.Resolving.{each, place_of}
use Rattle.sqltext.proofs.EachLemmas.{front_with}
use Rattle.sqltext.proofs.resolve.places.Given as goal

abbrev pub invariant-loop-name : goal.invariant-loop-name
invariant-loop-name g l = front_with l.places.items (each (place_of l.table.columns l.text) (drop l.name-index l.names)) ≡ each (place_of l.table.columns l.text) l.names
