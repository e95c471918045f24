use Rattle.std.proofs.Common.{◌≡◌, ℕ, Bor, List, Option, length}
use Rattle.value.specs.declared.kind.Kind.{Kind}
use Rattle.schema.specs.Definition.{Column}
use Rattle.schema.specs.declared.tables.Tables.{Tables}
use Rattle.restore.specs.Rows.{AreAt}
use Rattle.restore.proofs.draws.empty_places.Given as goal

-- as many places as there were turns, none of which has a piece
abbrev pub invariant-loop : goal.invariant-loop
invariant-loop g l =
    (length l.places.items ≡ l.counter)
    × ((known : Option (Tables g.row.A.Denot)) (columns : List Column) (kinds : List Kind) (lines : List (Bor (List ℕ))) → AreAt known columns kinds lines l.places.items)
