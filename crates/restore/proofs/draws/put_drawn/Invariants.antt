use Rattle.std.proofs.Common.{◌≡◌, ℕ, Bor, List, Option, length}
use Rattle.value.specs.declared.kind.Kind.{Kind}
use Rattle.schema.specs.Definition.{Column}
use Rattle.schema.specs.declared.tables.Tables.{Tables}
use Rattle.restore.specs.Rows.{AreDrawn, AreAt}
use Rattle.restore.proofs.draws.put_drawn.Given as goal

-- the pieces so far stand at their places, and those left are drawn
abbrev pub invariant-loop-piece : goal.invariant-loop-piece
invariant-loop-piece g l =
    (length l.places.items ≡ length l.fn.places.items)
    × ((known : Option (Tables g.row.A.Denot)) (columns : List Column) (kinds : List Kind) (lines : List (Bor (List ℕ))) → AreDrawn known columns kinds lines l.fn.drawn.items → AreAt known columns kinds lines l.fn.places.items
    → AreAt known columns kinds lines l.places.items × AreDrawn known columns kinds lines l.piece-iterator.rest.items)
