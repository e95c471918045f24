use Rattle.std.proofs.Common.{List, ℕ, Some, ap, sym, ◌∙◌}
use Rattle.script.proofs.TextLemmas.{text_of-utf8, text_of-other}
use Rattle.transcript.proofs.opening.text_of.Goals as goal

pub returns-in_default : goal.returns-in_default
returns-in_default g c = text_of-other c.args.bytes.now c.in_default.ensures.cases.0

pub returns-in-Ok-from_str : goal.returns-in-Ok-from_str
returns-in-Ok-from_str g c =
    text_of-utf8 c.args.bytes.now c.in-Ok.ensures.cases.1 ∙ ap (λ (t : List ℕ). Some t) (sym c.in-Ok.ensures.cases.0 ∙ sym (rw c.in-Ok-from_str.is at c.from_str.ensures.ok))
