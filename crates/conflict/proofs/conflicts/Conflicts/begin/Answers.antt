use Rattle.std.proofs.Common.{◌∙◌, ◌∷◌, ◌++◌, [], ap}
use Rattle.conflict.proofs.Kept.{begin_proper}
use Rattle.conflict.proofs.conflicts.Conflicts.begin.Goals as goal

pub invariant_of-self-2 : goal.invariant_of-self-2
invariant_of-self-2 g c =
    begin_proper _ c.args.self.now c.args.txn.0 c.args.mode c.args.snapshot c.push_reserved.new.self.items c.self.view_is c.self.invariant c.requires.later c.requires.shown
    (c.push_reserved.ensures.items ∙ ap (λ ps. ps ++ c.opened.result ∷ []) c.reserve.ensures.items ∙ ap (λ p. c.self.inside.parties.items ++ p ∷ []) c.opened.ensures)
