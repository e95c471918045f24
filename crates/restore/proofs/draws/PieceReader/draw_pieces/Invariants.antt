use Rattle.std.specs.Option.{option_copied}
use Rattle.restore.specs.Rows.{AreDrawn}
use Rattle.restore.proofs.draws.PieceReader.draw_pieces.Given as goal

-- the pieces so far are drawn
abbrev pub invariant-loop : goal.invariant-loop
invariant-loop g l = AreDrawn (option_copied l.self.known) l.self.columns.now l.self.kinds.now l.self.lines.now l.drawn.items
