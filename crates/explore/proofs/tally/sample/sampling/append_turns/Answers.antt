use Rattle.std.proofs.Common.{◌≡◌, ◌++◌, ◌∷◌, [], ap, ◌∙◌, append_assoc, replicate}
use Rattle.std.proofs.lemmas.List.{replicate-append-replicate}
use Rattle.explore.proofs.tally.sample.sampling.append_turns.Goals as goal

pub loop-preserved : goal.loop-preserved
loop-preserved g c =
    let own = c.args.session in
    c.in_ok-push.ensures.items
    ∙ ap (λ x. x ++ own ∷ []) c.loop.invariant
    ∙ append_assoc c.args.order.now.items (replicate c.loop.counter own) (own ∷ [])
    ∙ ap (λ x. c.args.order.now.items ++ x) (replicate-append-replicate c.loop.counter 1 own)
