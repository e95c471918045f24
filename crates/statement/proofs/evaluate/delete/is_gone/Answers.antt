use Rattle.std.proofs.Common.{ap, not, sym, map, ◌∙◌}
use Rattle.statement.proofs.DeleteLemmas.{gone_is, null_stays}
use Rattle.statement.proofs.evaluate.delete.is_gone.Goals as goal

pub returns-then-not-is_null : goal.returns-then-not-is_null
returns-then-not-is_null g c = c.has_key.ensures ∙ gone_is c.args.value.now (sym c.is_null.ensures ∙ c.if-not-is_null.true) (map (λ row. row.now) c.args.gone.now)

pub returns-else-not-is_null : goal.returns-else-not-is_null
returns-else-not-is_null g c =
    ap not c.if-not-is_null.false ∙ sym (null_stays c.args.value.now (sym c.is_null.ensures ∙ c.if-not-is_null.false) (map (λ row. row.now) c.args.gone.now))
