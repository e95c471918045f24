use Rattle.std.proofs.Common.{◌≡◌, ℕ, Bor, List, Option, length}
use Rattle.value.specs.declared.kind.Kind.{Kind}
use Rattle.schema.specs.Definition.{Column}
use Rattle.schema.specs.declared.tables.Tables.{Tables}
use Rattle.restore.specs.Rows.{AreAllDrawn, AreAt}
use Rattle.restore.proofs.draws.placed.Given as goal

-- the pieces of the threads so far stand at their places, and those of the threads left are drawn
abbrev pub invariant-loop-made : goal.invariant-loop-made
invariant-loop-made g l =
    (length l.places.items ≡ l.count)
    × ((known : Option (Tables g.row.A.Denot)) (columns : List Column) (kinds : List Kind) (lines : List (Bor (List ℕ))) → AreAllDrawn known columns kinds lines l.fn.all.items
    → AreAt known columns kinds lines l.places.items × AreAllDrawn known columns kinds lines l.made-iterator.rest.items)
