use Rattle.std.proofs.Common.{◌∙◌, sym, ap, subst, slice_get}
use Rattle.value.proofs.Basics.{IfOk_then, slice_get_item}
use Rattle.orders.specs.Walks.{HasTurned}
use Rattle.orders.proofs.AloneLemmas.{past-none, read-at}
use Rattle.orders.proofs.WalkLemmas.{fit-at}
use Rattle.orders.proofs.search.go.Goals as goal

pub returns-in-Some-clause-ok : goal.returns-in-Some-clause-ok
returns-in-Some-clause-ok g c =
    IfOk_then c.go.result c.go.ensures.ok (λ b h t at. subst (λ u. HasTurned c.args.catalog.now u c.args.walk.now c.args.place b c.go.new.self) (read-at c.transactions.result.now c.args.place c.in-Some.transaction.now t c.in-Some.ensures.lookup.1 (ap (λ ts. slice_get ts c.args.place) c.transactions.ensures ∙ at)) h)

pub returns-in-None-clause-ok : goal.returns-in-None-clause-ok
returns-in-None-clause-ok g c = λ t at. absurd (past-none c.transactions.result.now c.args.place t c.in-None.ensures.lookup.3 (ap (λ ts. slice_get ts c.args.place) c.transactions.ensures ∙ at))

pub go-requires-clause-fits : goal.go-requires-clause-fits
go-requires-clause-fits g c = fit-at c.args.catalog.now c.args.recorded.now c.args.recorded.now c.args.place c.in-Some.transaction.now c.requires.fit (ap (λ ts. slice_get ts c.args.place) (sym c.transactions.ensures) ∙ slice_get_item c.transactions.result.now c.args.place c.in-Some.transaction.now c.in-Some.ensures.lookup.3.0 c.in-Some.ensures.lookup.1)
