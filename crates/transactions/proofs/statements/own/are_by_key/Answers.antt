use Rattle.std.proofs.Common.{◌≡◌, ap, sym, subst, ◌∙◌, suc, ◌-◌, drop, get_or, arith}
use Rattle.std.specs.List.Sorted.{IsStrictlySortedBy}
use Rattle.std.specs.Ordering.{is_lt}
use Rattle.schema.specs.Changing.{change_cmp}
use Rattle.transactions.proofs.RisingLemmas.{rising_last, rising_more}
use Rattle.transactions.proofs.statements.own.are_by_key.Goals as goal

pub loop-rising-init : goal.loop-rising-init
loop-rising-init g c = (omega arith, rising_last c.args.changes.now)

pub loop-rising-preserved : goal.loop-rising-preserved
loop-rising-preserved g c =
    let xs = c.args.changes.now in
    let n = c.loop-rising.rising - 1 - 1 in
    let step : suc n ≡ c.loop-rising.rising - 1 = omega (arith, c.loop-rising-test.true) in
    let less = ap is_lt (sym c.order_of.ensures) ∙ sym c.is_lt.ensures ∙ c.if-not-is_lt.false in
    let y = c.index-changes-last-in-loop-rising.result in (
      omega (arith, c.loop-rising.invariant.0),
      rising_more xs n c.index-changes-last.result y (omega (arith, step, c.loop-rising.invariant.0, c.loop-rising-test.true)) c.index-changes-last.is (subst (λ m. y ≡ get_or xs m y) (sym step) c.index-changes-last-in-loop-rising.is) less
          (subst (λ m. IsStrictlySortedBy change_cmp (drop m xs)) (sym step) c.loop-rising.invariant.1),
    )
