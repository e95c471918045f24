use Rattle.std.proofs.Common.{refl, ap, ◌∙◌}
use Rattle.explore.proofs.Lines.{line_kept, line_taken}
use Rattle.explore.proofs.tally.listing.refusals.lines_of.Goals as goal
use Rattle.explore.proofs.tally.listing.refusals.lines_of.Goals.{then-byte-eq10+in_ok-push, else-byte-eq10}

pub loop-place-preserved : goal.loop-place-preserved
loop-place-preserved g c =
    let text = c.args.text.now in
    let start = c.loop-place.start in
    let i = c.loop-place.place in
    let found = c.loop-place.found.items in
    let now = c.if-byte-eq10.found.items in
    let inv = c.loop-place.invariant in
    elim c.if-byte-eq10.branch [
      | then-byte-eq10+in_ok-push w ↦ line_taken text start c.if-byte-eq10.start i found now _ c.loop-place-test.true w.if-byte-eq10.true w.start-is (ap (λ v. v.items) w.found-is ∙ w.in_ok-push.ensures.items) refl inv.1
      | else-byte-eq10 w ↦ line_kept text start c.if-byte-eq10.start i found now inv.0 c.loop-place-test.true w.if-byte-eq10.false w.start-is (ap (λ v. v.items) w.found-is) inv.1
    ]
