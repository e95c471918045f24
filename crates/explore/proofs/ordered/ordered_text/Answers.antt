use Rattle.std.proofs.Common.{◌∙◌, take, ap, arith}
use Rattle.explore.proofs.OrderedLemmas.{ordered}
use Rattle.explore.proofs.ordered.ordered_text.Goals as goal

pub returns : goal.returns
returns g c =
    ordered c.in_ok-lines.lines.items c.as_slice-2.result.now c.first_of.result.now (λ l. l.now) c.args.script.now c.args.last c.args.turns.now c.args.order.now c.in_ok-numbers.numbers.items c.as_slice-3.result.now c.new-text.result.items c.append_lines.new.text.items c.append_numbered.new.text.items
    (omega (arith, c.if-order-turns.false)) c.in_ok-numbers.ensures c.in_ok-lines.ensures c.as_slice-2.ensures.value (c.first_of.ensures ∙ ap (take c.args.last) c.as_slice.ensures.value) c.as_slice-3.ensures.value c.new-text.ensures.items c.in_ok-append_lines.ensures c.in_ok-append_numbered.ensures
