use Rattle.std.proofs.Common.{◌≡◌, true, ap, sym, ◌∙◌}
use Rattle.std.specs.Ordering.{is_eq}
use Rattle.value.specs.Order.{value_cmp}
use Rattle.statement.proofs.WalkLemmas.{only_one}
use Rattle.statement.proofs.evaluate.chosen.only_key.Goals as goal

pub returns-then-is_eq : goal.returns-then-is_eq
returns-then-is_eq g c =
    let same : is_eq (value_cmp c.in-Closed-Closed.first c.in-Closed-Closed.last) ≡ true = ap is_eq (sym c.cmp.ensures) ∙ sym c.is_eq.ensures ∙ c.if-is_eq.true in
    λ k p q. only_one c.in-Closed-Closed.first c.in-Closed-Closed.last k same (rw c.in-Closed-Closed.is-0 at p) (rw c.in-Closed-Closed.is-1 at q)
