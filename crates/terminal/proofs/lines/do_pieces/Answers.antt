use Rattle.std.proofs.Common.{◌≡◌, ◌∙◌, ◌++◌, ◌+◌, take, map, sym, ap, subst, arith}
use Rattle.terminal.specs.Terminals.{DoesPiece, InTurn, UnlessEnded}
use Rattle.terminal.proofs.PlayLemmas.{done_more}
use Rattle.terminal.proofs.lines.do_pieces.Goals as goal

pub loop-piece-preserved : goal.loop-piece-preserved
loop-piece-preserved g c =
    let does = DoesPiece g.H.Handler.answers g.H.Attended.held g.H.Attended.tells in
    let so_far = c.loop-piece.told.items in
    let said : c.extend_from_slice.new.self.items ≡ so_far ++ c.in_ok-after.text.items = c.in_ok-extend_from_slice.ensures.items ∙ ap (λ s. so_far ++ s) c.as_slice-in-loop-piece.ensures.value in
    let last = subst (λ piece. UnlessEnded c.loop-piece.next.has_quit does piece c.loop-piece.next c.in_ok-after.after c.in_ok-after.text.items) c.as_slice.ensures.value c.in_ok-after.ensures.done in
    let done = done_more does (λ x. x.items) c.args.pieces.now c.loop-piece.piece-index c.piece-item.result c.piece-item.result c.args.terminal c.loop-piece.next c.in_ok-after.after so_far c.in_ok-after.text.items (omega arith) c.piece-item.is c.loop-piece.invariant last in
    subst (λ s. InTurn does (map (λ x. x.items) (take (c.loop-piece.piece-index + 1) c.args.pieces.now)) c.args.terminal c.in_ok-after.after s) (sym said) done
