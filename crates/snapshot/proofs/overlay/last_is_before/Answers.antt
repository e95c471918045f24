use Rattle.std.proofs.Common.{ap, sym, ◌∙◌}
use Rattle.std.specs.Ordering.{is_lt}
use Rattle.value.specs.Order.{value_cmp}
use Rattle.snapshot.proofs.MergeLemmas.{last_lent}
use Rattle.snapshot.proofs.overlay.last_is_before.Goals as goal

pub returns-in-Some : goal.returns-in-Some
returns-in-Some g c =
    c.is_lt.ensures
    ∙ ap is_lt (c.cmp.ensures ∙ ap (λ k. value_cmp k c.args.key.now) c.key.ensures)
    ∙ sym (last_lent c.args.rows.now c.in-Some.last.now c.args.key.now c.in-Some.ensures.value)
