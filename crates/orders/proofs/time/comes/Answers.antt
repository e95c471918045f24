use Rattle.std.proofs.Common.{◌∙◌, sym, ap, ◌<◌, ◌^◌, not, nat_lt, subst}
use Rattle.value.proofs.Basics.{slice_get_item}
use Rattle.orders.proofs.TimeLemmas.{comes-begun, comes-done, comes-imported, comes-past, comes-past-done}
use Rattle.orders.proofs.time.comes.Goals as goal

pub returns-then-transaction : goal.returns-then-transaction
returns-then-transaction g c =
    c.if-transaction.true
    ∙ comes-imported c.args.transactions.now c.args.done.now c.args.place c.in-Some.transaction.now c.in-Some-get.is_done.now (slice_get_item c.args.transactions.now c.args.place c.in-Some.transaction.now c.in-Some.ensures.lookup.3.0 c.in-Some.ensures.lookup.1)
    (slice_get_item c.args.done.now c.args.place c.in-Some-get.is_done.now c.in-Some-get.ensures.lookup.3.0 c.in-Some-get.ensures.lookup.1) c.if-not-is_done.true (sym (ap (λ t. t.imported) c.transaction.view_is) ∙ c.if-transaction.true)

pub returns-else-transaction : goal.returns-else-transaction
returns-else-transaction g c =
    comes-begun c.args.transactions.now c.args.done.now c.args.least c.args.place c.in-Some.transaction.now c.in-Some-get.is_done.now c.begins_by.result (slice_get_item c.args.transactions.now c.args.place c.in-Some.transaction.now c.in-Some.ensures.lookup.3.0 c.in-Some.ensures.lookup.1)
    (slice_get_item c.args.done.now c.args.place c.in-Some-get.is_done.now c.in-Some-get.ensures.lookup.3.0 c.in-Some-get.ensures.lookup.1) c.if-not-is_done.true (sym (ap (λ t. t.imported) c.transaction.view_is) ∙ c.if-transaction.false)
    (subst (λ b. b < 2 ^ 64) (ap (λ t. t.begin) c.transaction.view_is) c.begins_by.ensures.within) c.requires (c.begins_by.ensures.tells ∙ ap (λ b. not (nat_lt c.args.least b)) (ap (λ t. t.begin) c.transaction.view_is))

pub returns-else-not-is_done : goal.returns-else-not-is_done
returns-else-not-is_done g c =
    ap not c.if-not-is_done.false
    ∙ comes-done c.args.transactions.now c.args.done.now c.args.place c.in-Some.transaction.now c.in-Some-get.is_done.now (slice_get_item c.args.transactions.now c.args.place c.in-Some.transaction.now c.in-Some.ensures.lookup.3.0 c.in-Some.ensures.lookup.1)
    (slice_get_item c.args.done.now c.args.place c.in-Some-get.is_done.now c.in-Some-get.ensures.lookup.3.0 c.in-Some-get.ensures.lookup.1) c.if-not-is_done.false

pub returns-in-None-get : goal.returns-in-None-get
returns-in-None-get g c =
    comes-past-done c.args.transactions.now c.args.done.now c.args.place c.in-Some.transaction.now (slice_get_item c.args.transactions.now c.args.place c.in-Some.transaction.now c.in-Some.ensures.lookup.3.0 c.in-Some.ensures.lookup.1) c.in-None-get.ensures.lookup.3

pub returns-in-None : goal.returns-in-None
returns-in-None g c = comes-past c.args.transactions.now c.args.done.now c.args.place c.in-None.ensures.lookup.3
