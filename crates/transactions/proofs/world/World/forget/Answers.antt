use Rattle.std.proofs.Common.{ap, refl, sym, subst, ◌∙◌, ◌≤◌, ◌+◌, ◌-◌, length, arith}
use Rattle.std.specs.List.{AllByRecursion, filter}
use Rattle.history.specs.Transactions.{is_living}
use Rattle.transactions.specs.Forgetting.{IsThinned, is_left, oldest_of}
use Rattle.transactions.specs.Ledger.{Ledger}
use Rattle.transactions.specs.Stretches.{HoldStretches}
use Rattle.transactions.proofs.ForgettingLemmas.{counted-thinned, filter-shorter, left_whole}
use Rattle.transactions.proofs.LedgerLemmas.{numbered-more}
use Rattle.transactions.proofs.StretchLemmas.{stretches-rest, stretches-where}
use Rattle.transactions.proofs.world.World.forget.Goals as goal

pub overflow_sub-self : goal.overflow_sub-self
overflow_sub-self g c =
    let fewer : length c.keep_needed.new.transactions.items ≤ length c.self.inside.transactions.items = rw c.keep_needed.ensures (filter-shorter _ c.self.inside.transactions.items) in
    omega (arith, fewer, c.len.ensures, c.len-3.ensures)

pub overflow_sub-self-2 : goal.overflow_sub-self-2
overflow_sub-self-2 g c =
    let fewer : length c.keep_living.new.exports.items ≤ length c.self.inside.exports.items = rw c.keep_living.ensures (filter-shorter _ c.self.inside.exports.items) in
    omega (arith, fewer, c.len-2.ensures, c.len-4.ensures)

pub invariant_of-self : goal.invariant_of-self
invariant_of-self g c =
    let ts = c.self.inside.transactions.items in
    let xs = c.self.inside.exports.items in
    let fewer : length c.keep_needed.new.transactions.items ≤ length ts = rw c.keep_needed.ensures (filter-shorter _ ts) in
    let less : length c.keep_living.new.exports.items ≤ length xs = rw c.keep_living.ensures (filter-shorter _ xs) in (
      counted-thinned (record { base = c.self.inside.base; txns = ts; exports = xs; place = c.self.inside.place }) _ (is_left c.end_of-from.result c.oldest_of-oldest.result ts) c.self.invariant.0 c.keep_needed.ensures
          (omega (arith, fewer, c.len.ensures, c.len-3.ensures)) refl (omega (arith, less, c.len-2.ensures, c.len-4.ensures)) refl,
      subst (HoldStretches c.grow.new.past.items) c.as_slice-6.ensures.value c.grow.ensures,
    )

pub returns : goal.returns
returns g c =
    let ts = c.self.inside.transactions.items in
    let xs = c.self.inside.exports.items in
    let fewer : length c.keep_needed.new.transactions.items ≤ length ts = rw c.keep_needed.ensures (filter-shorter _ ts) in
    let less : length c.keep_living.new.exports.items ≤ length xs = rw c.keep_living.ensures (filter-shorter _ xs) in
    let base = c.self.inside.base in
    let thinned : Ledger _ = record {
      base = record { transactions = base.transactions + c.len.result - c.len-3.result; commits = base.commits; identifiers = base.identifiers + c.len-2.result - c.len-4.result; events = base.events };
      txns = c.keep_needed.new.transactions.items;
      exports = c.keep_living.new.exports.items;
      place = c.self.inside.place;
    } in
    subst (λ (l : Ledger _). IsThinned c.args.unspoilt.now l thinned) c.self.view_is (record {
      passed = c.end_of-from.result;
      txns = c.keep_needed.ensures ∙ ap (λ n. filter (is_left c.end_of-from.result n ts) ts)
          (c.oldest_of-oldest.ensures ∙ ap (oldest_of c.args.unspoilt.now base.commits) c.as_slice.ensures.value);
      exports = c.keep_living.ensures ∙ ap (λ us. filter (is_living us) xs) c.as_slice-5.ensures.value;
      transactions = omega (arith, fewer, c.len.ensures, c.len-3.ensures);
      commits = refl;
      identifiers = omega (arith, less, c.len-2.ensures, c.len-4.ensures);
      events = refl;
      place = refl;
    })

pub keep_needed-requires-clause-numbered : goal.keep_needed-requires-clause-numbered
keep_needed-requires-clause-numbered g c =
    let h = c.self.invariant.0 in
    numbered-more 0 (c.self.inside.base.transactions + length c.self.inside.transactions.items) 18446744073709551616 c.self.inside.transactions.items (omega (arith, h.transactions, h.fits)) h.numbered

pub end_of-from-requires : goal.end_of-from-requires
end_of-from-requires g c =
    let ts = c.self.inside.transactions.items in
    let held : HoldStretches c.clear_where.new.past.items ts = subst (λ ss. HoldStretches ss ts) (sym c.clear_where.ensures) (stretches-where _ c.self.inside.past.items ts c.self.invariant.1) in
    rw (c.as_slice-3.ensures.value, c.as_slice-4.ensures.value) held

pub grow-requires : goal.grow-requires
grow-requires g c =
    let ts = c.self.inside.transactions.items in
    let from = c.end_of-from.result in
    let ss = c.clear_where.new.past.items in
    let held : HoldStretches ss ts = subst (λ xs. HoldStretches xs ts) (sym c.clear_where.ensures) (stretches-where _ c.self.inside.past.items ts c.self.invariant.1) in
    let within : from ≤ length ts = omega (arith, c.end_of-from.ensures.within, ap length c.as_slice-3.ensures.value) in
    let ends : AllByRecursion (λ s. s.to ≤ from) ss = subst (AllByRecursion (λ s. s.to ≤ from)) c.as_slice-4.ensures.value c.end_of-from.ensures.behind in
    subst (HoldStretches ss)
    (sym (c.as_slice-6.ensures.value ∙ c.keep_needed.ensures ∙ left_whole _ from c.oldest_of-oldest.result ts c.self.invariant.0.numbered within))
    (stretches-rest ss from ts _ within ends held)
