use Rattle.std.proofs.Common.{Bor, List, ℕ, IfOk, map, subst}
use Rattle.std.specs.Option.{option_copied}
use Rattle.restore.specs.Rows.{IsPiece}
use Rattle.restore.proofs.draws.PieceReader.piece_at.Goals as goal

pub returns-in-None : goal.returns-in-None
returns-in-None g c =
    subst (λ (ls : List (Bor (List ℕ))). IfOk c.read_piece.result (λ piece. IsPiece (option_copied c.args.self.now.known) c.args.self.now.columns.now c.args.self.now.kinds.now piece (map (λ line. line.now) ls))) c.piece_lines-lines.ensures c.read_piece.ensures
