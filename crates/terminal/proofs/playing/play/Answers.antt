use Rattle.std.proofs.Common.{◌≡◌, ◌∙◌, ◌++◌, ◌+◌, take, map, sym, ap, refl, subst, arith, []}
use Rattle.terminal.specs.Terminals.{InTurn, PlaysLine}
use Rattle.terminal.proofs.PlayLemmas.{done_more}
use Rattle.terminal.proofs.playing.play.Goals as goal

pub loop-line-preserved : goal.loop-line-preserved
loop-line-preserved g c =
    let plays = PlaysLine g.H.Handler.answers g.H.Attended.held g.H.Attended.tells in
    let so_far = c.loop-line.told.items in
    let said : c.extend_from_slice.new.self.items ≡ so_far ++ c.in_ok-after.text.items = c.in_ok-extend_from_slice.ensures.items ∙ ap (λ s. so_far ++ s) c.as_slice.ensures.value in
    let played = done_more plays (λ x. x.now) c.args.lines.now c.loop-line.line-index _ (record { ref_ptr = (0, 0); now = [] }) c.args.terminal c.loop-line.next c.in_ok-after.after so_far c.in_ok-after.text.items (omega arith) refl c.loop-line.invariant c.in_ok-after.ensures.done in
    subst (λ s. InTurn plays (map (λ x. x.now) (take (c.loop-line.line-index + 1) c.args.lines.now)) c.args.terminal c.in_ok-after.after s) (sym said) played
