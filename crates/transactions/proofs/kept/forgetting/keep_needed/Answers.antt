use Rattle.std.proofs.Common.{ap, sym, subst, rules, ◌∙◌, ◌≡◌, ◌<◌, ◌≤◌, ◌++◌, length, take, drop, arith, List}
use Rattle.std.proofs.lemmas.List.{get_or_default}
use Rattle.std.proofs.lemmas.List.Filters.{FiltersInPlace-more_here, FiltersInPlace-more_no, FiltersInPlace-more_swap}
use Rattle.history.specs.Transactions.{Txn}
use Rattle.transactions.specs.Forgetting.{is_left, is_needed_among, least_of_recent}
use Rattle.transactions.specs.Ledger.{nothing, txn_at}
use Rattle.transactions.proofs.ForgettingLemmas.{filters-from, left_behind, left_so, needed-told, same_behind}
use Rattle.transactions.proofs.kept.forgetting.keep_needed.Goals as goal
use Rattle.transactions.proofs.kept.forgetting.keep_needed.Goals.{then-is_needed_at, else-is_needed_at, then-kept-at, else-kept-at}

pub loop-at-init : goal.loop-at-init
loop-at-init g c = (
  filters-from _ c.args.from c.args.oldest c.args.transactions.now.items c.requires.numbered c.requires.within,
  search rules,
  subst (λ (ts : List (Txn _)). c.reach_of-reach.result ≤ least_of_recent c.args.oldest ts) c.as_slice.ensures.value c.reach_of-reach.ensures,
  omega arith,
)

pub loop-at-preserved : goal.loop-at-preserved
loop-at-preserved g c =
    let ts = c.args.transactions.now.items in
    let us = c.loop-at.transactions.items in
    let reach = c.reach_of-reach.result in
    let inv = c.loop-at.invariant in
    let within : c.loop-at.at < length us = omega (arith, inv.0.long, inv.1, c.loop-at-test.true) in
    let early : c.loop-at.at < length ts = omega (arith, inv.1, c.loop-at-test.true) in
    let u = txn_at us c.loop-at.at in
    let found = get_or_default us c.loop-at.at nothing u within in
    let told : c.is_needed_at.result ≡ is_left c.args.from c.args.oldest ts u =
    c.is_needed_at.ensures ∙ ap (λ (vs : List (Txn _)). is_needed_among c.args.oldest reach (take c.loop-at.kept vs ++ drop c.loop-at.at vs) (txn_at vs c.loop-at.at)) c.as_slice-in-loop-at.ensures.value
    ∙ needed-told (is_left c.args.from c.args.oldest ts) c.args.oldest _ reach ts us c.loop-at.kept c.loop-at.at u inv.0 (left_so c.args.from c.args.oldest ts) inv.2
    ∙ sym (left_behind _ c.args.from c.loop-at.at c.args.oldest ts u c.requires.numbered inv.3 early (found ∙ same_behind ts us c.loop-at.at u inv.0.rest)) in
    elim c.if-is_needed_at.branch [
      | then-is_needed_at w ↦
          let passes = sym told ∙ w.if-is_needed_at.true in
          elim w.if-kept-at.branch [
            | then-kept-at v ↦ rw (w.transactions-is, v.transactions-is, w.kept-is) (FiltersInPlace-more_swap inv.0 within passes found v.swap.ensures.by_index, inv.1, inv.2, omega (arith, inv.3))
            | else-kept-at v ↦ rw (w.transactions-is, v.transactions-is, w.kept-is) (FiltersInPlace-more_here inv.0 within passes found (omega (arith, inv.0.behind, v.if-kept-at.false)), inv.1, inv.2, omega (arith, inv.3))
          ]
      | else-is_needed_at w ↦ rw (w.transactions-is, w.kept-is) (FiltersInPlace-more_no inv.0 within (sym told ∙ w.if-is_needed_at.false) found, inv.1, inv.2, omega (arith, inv.3))
    ]
