use Rattle.std.proofs.Common.{◌≡◌, length}
use Rattle.statement.proofs.HeldLemmas.{held_length, held_sound}
use Rattle.history.specs.Answer.{view_answer}
use Rattle.backup.proofs.ViewedLemmas.{viewed_so}
use Rattle.core_scarcity_tests.proofs.serving.view_of.Goals as goal

pub returns : goal.returns
returns g c =
    let o = g.J.Naming.opening in
    let p = c.view.new.pass in
    viewed_so (λ X. length X ≡ length o.catalog) c.view.result (view_answer o p.seen p.session) c.view.ensures.view
    (λ X e. held_length o.catalog X (held_sound o.catalog X (c.views_are_sound.ensures o p.seen p.session X c.view.ensures.looked.legal e)))
