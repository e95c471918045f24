use Rattle.std.proofs.Common.{◌∙◌, ◌-◌, ap, drop, length, map, take}
use Rattle.std.proofs.lemmas.Result.{IfOk-weaker}
use Rattle.terminal.proofs.RowLemmas.{inner-map}
use Rattle.terminal.proofs.drawing.rows_in.Goals as goal

pub returns : goal.returns
returns g c =
    let inner = c.inner.ensures ∙ ap (λ p. drop 1 (take (length p - 1) p)) c.as_slice.ensures.value in
    let cut = ap (λ l. map (λ x. drop c.args.before x.now) l) inner ∙ inner-map (λ x. x.now) (λ r. drop c.args.before r) c.in_ok-parts.parts.items ∙ ap (λ s. map (λ r. drop c.args.before r) (drop 1 (take (length s - 1) s))) c.in_ok-parts.ensures in
    IfOk-weaker c.without_start.result _ _ (λ rows is. is ∙ cut) c.without_start.ensures
