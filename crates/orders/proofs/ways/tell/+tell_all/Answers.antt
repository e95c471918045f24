use Rattle.std.proofs.Common.{ap, sym, ◌∙◌, Some}
use Rattle.std.proofs.lemmas.Result.{IfOk-weaker}
use Rattle.orders.proofs.TellLemmas.{tell_all-more, tell_all-end}
use Rattle.orders.proofs.ways.tell.+tell_all.Goals as goal

pub returns-in-Some-clause-ok : goal.returns-in-Some-clause-ok
returns-in-Some-clause-ok g t c =
    IfOk-weaker c.tell_all.result _ _ (λ w e. e ∙ tell_all-more c.args.key.now c.args.column c.args.values.now c.value-item.result c.args.way.now c.in-Some.told c.in-len1-up.len_at_least c.value-item.is c.if-column-lt4294967295.true
    (sym c.in_ok-told-in-len1-up.ensures.ok ∙ c.in-Some.is)) c.tell_all.ensures.ok

pub returns-in_ok-copy-in-len1-up-clause-ok :
    goal.returns-in_ok-copy-in-len1-up-clause-ok
returns-in_ok-copy-in-len1-up-clause-ok g t c =
    ap Some c.in_ok-copy-in-len1-up.ensures.ok ∙ tell_all-end c.args.key.now c.args.column c.args.values.now c.args.way.now c.if-column-lt4294967295.false
