use Rattle.std.proofs.Common.{◌≡◌, ap, subst, sym, ◌∙◌, drop, true}
use Rattle.siread.specs.Adding.{Grows, adds_nothing}
use Rattle.siread.specs.Bounds.{HasFewKeys}
use Rattle.siread.proofs.AlikeLemmas.{alike-nothing}
use Rattle.siread.proofs.HeldLemmas.{grows_itself}
use Rattle.siread.proofs.held.add.Goals as goal

pub returns-in_err-reserve_exact-clause-kept : goal.returns-in_err-reserve_exact-clause-kept
returns-in_err-reserve_exact-clause-kept g c =
    subst (λ ks. Grows c.args.settled c.args.kept.now.items ks) (sym c.reserve_exact.ensures.items) (grows_itself c.args.settled c.args.kept.now.items c.requires.within c.requires.once c.requires.few)

pub push-requires-clause-few : goal.push-requires-clause-few
push-requires-clause-few g c = subst (λ ks. HasFewKeys (drop c.args.settled ks)) (sym c.reserve_exact.ensures.items) c.requires.few

pub push-requires-clause-new : goal.push-requires-clause-new
push-requires-clause-new g c =
    ap (λ xs. adds_nothing xs c.in_ok-copy.copy) (c.reserve_exact.ensures.items ∙ sym c.as_slice.ensures.value)
    ∙ ap (adds_nothing c.as_slice.result.now) c.in_ok-copy.ensures.ok
    ∙ sym c.adds_nothing.ensures
    ∙ c.if-not-adds_nothing.true

pub returns-else-not-adds_nothing-clause-ok : goal.returns-else-not-adds_nothing-clause-ok
returns-else-not-adds_nothing-clause-ok g c =
    let told : adds_nothing c.args.kept.now.items c.args.reading.now ≡ true =
    ap (λ xs. adds_nothing xs c.args.reading.now) (sym c.as_slice.ensures.value) ∙ sym c.adds_nothing.ensures ∙ c.if-not-adds_nothing.false
    in
    alike-nothing c.args.kept.now.items c.args.reading.now told
