use Rattle.std.proofs.Common.{◌≡◌, length}
use Rattle.statement.proofs.HeldLemmas.{held_length, held_sound}
use Rattle.history.specs.Answer.{view_answer}
use Rattle.backup.proofs.ViewedLemmas.{viewed_so}
use Rattle.core_scarcity_tests.proofs.driver.view_of.Goals as goal

pub returns : goal.returns
returns g c =
    let h = c.args.core.now in
    viewed_so (λ X. length X ≡ length h.opening.catalog) c.view.result (view_answer h.opening h.records c.args.session) c.view.ensures
    (λ X e. held_length h.opening.catalog X (held_sound h.opening.catalog X (c.views_are_sound.ensures h.opening h.records c.args.session X c.is_legal.ensures e)))
