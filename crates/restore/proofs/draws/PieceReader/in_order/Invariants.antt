use Rattle.std.proofs.Common.{◌≡◌, ◌++◌, length}
use Rattle.std.specs.Option.{option_copied}
use Rattle.restore.proofs.taking.Pieces.{EachIs}
use Rattle.restore.proofs.draws.PieceReader.in_order.Given as goal

-- the pieces so far are those of the places so far
abbrev pub invariant-loop-drawn : goal.invariant-loop-drawn
invariant-loop-drawn g l =
    (l.yielded ++ l.drawn-iterator.rest.items ≡ l.fn.places.items)
    × (length l.pieces.items ≡ length l.yielded)
    × EachIs (option_copied l.self.known) l.self.columns.now l.self.kinds.now 1000 l.pieces.items l.self.lines.now
