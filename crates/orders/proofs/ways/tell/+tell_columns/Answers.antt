use Rattle.std.proofs.Common.{sym, ◌∙◌}
use Rattle.std.proofs.lemmas.Result.{IfOk-weaker}
use Rattle.orders.proofs.TellLemmas.{tell_columns-more}
use Rattle.orders.proofs.ways.tell.+tell_columns.Goals as goal

pub returns-in-Some-clause-ok : goal.returns-in-Some-clause-ok
returns-in-Some-clause-ok g t c =
    IfOk-weaker c.tell_columns.result _ _ (λ w e. e ∙ tell_columns-more c.args.key.now c.args.columns.now c.args.values.now c.value-item.result c.args.way.now c.in-Some.told c.in-len1-up.len_at_least c.in-len1-up-values.len_at_least
    c.value-item.is (sym c.in_ok-told-in-len1-up-values.ensures.ok ∙ c.in-Some.is)) c.tell_columns.ensures.ok
