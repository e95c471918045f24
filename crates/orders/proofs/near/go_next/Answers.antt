use Rattle.std.proofs.Common.{◌∙◌, sym, ap, slice_get}
use Rattle.value.proofs.Basics.{IfOk_then, slice_get_item}
use Rattle.orders.specs.Turns.{comes}
use Rattle.orders.proofs.WalkLemmas.{fit-at, path-on}
use Rattle.orders.proofs.near.go_next.Goals as goal

pub returns-in-Some-clause-path : goal.returns-in-Some-clause-path
returns-in-Some-clause-path g c =
    IfOk_then c.go.result c.go.ensures.ok (λ b h X p.
    path-on c.args.catalog.now X c.args.recorded.now c.args.walk.now c.go.new.self c.args.place c.in-Some.transaction.now b (ap (λ ts. slice_get ts c.args.place) (sym c.transactions.ensures) ∙ slice_get_item c.transactions.result.now c.args.place c.in-Some.transaction.now c.in-Some.ensures.lookup.3.0 c.in-Some.ensures.lookup.1) h
    (ap (λ d. comes c.args.recorded.now d c.args.place) (sym c.done.ensures) ∙ sym c.may_come.ensures ∙ c.if-not-may_come.false) p)

pub go-requires-clause-fits : goal.go-requires-clause-fits
go-requires-clause-fits g c = fit-at c.args.catalog.now c.args.recorded.now c.args.recorded.now c.args.place c.in-Some.transaction.now c.requires.fit (ap (λ ts. slice_get ts c.args.place) (sym c.transactions.ensures) ∙ slice_get_item c.transactions.result.now c.args.place c.in-Some.transaction.now c.in-Some.ensures.lookup.3.0 c.in-Some.ensures.lookup.1)

pub returns-then-not-may_come-clause-path : goal.returns-then-not-may_come-clause-path
returns-then-not-may_come-clause-path g c = λ X p. p

pub returns-in-None-clause-path : goal.returns-in-None-clause-path
returns-in-None-clause-path g c = λ X p. p
