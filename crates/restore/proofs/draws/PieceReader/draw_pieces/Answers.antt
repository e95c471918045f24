use Rattle.std.proofs.Common.{Bor, List, ℕ, map, subst}
use Rattle.std.specs.Option.{option_copied}
use Rattle.restore.specs.Rows.{IsPiece, lines_at}
use Rattle.restore.proofs.taking.Drawn.{all_push}
use Rattle.restore.proofs.draws.PieceReader.draw_pieces.Goals as goal

pub loop-preserved : goal.loop-preserved
loop-preserved g c =
    let known = option_copied c.args.self.now.known in
    let columns = c.args.self.now.columns.now in
    let kinds = c.args.self.now.kinds.now in
    let lines = c.args.self.now.lines.now in
    let piece = subst (λ (ls : List (Bor (List ℕ))). IsPiece known columns kinds c.in_ok-piece.piece (map (λ line. line.now) ls)) c.piece_lines-lines.ensures c.in_ok-piece.ensures in
    all_push (λ d. IsPiece known columns kinds d.piece (lines_at lines d.place)) c.loop.drawn.items c.push.new.self.items _ c.in_ok-push.ensures.items piece c.loop.invariant
