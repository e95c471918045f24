use Rattle.std.proofs.Common.{sym, ◌∙◌}
use Rattle.copytext.proofs.ValueLemmas.{field_value-whole}
use Rattle.copytext.proofs.reading.read_field.Goals as goal

pub returns-then-not-contains : goal.returns-then-not-contains
returns-then-not-contains g c =
    rw (field_value-whole c.args.kind c.args.raw.now (sym c.is_null_mark.ensures ∙ c.if-is_null_mark.false) (sym c.contains.ensures.value ∙ c.if-not-contains.true)) c.of_literal.ensures
