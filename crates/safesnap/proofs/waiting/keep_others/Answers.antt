use Rattle.std.proofs.Common.{arith, ap, ◌<◌, length}
use Rattle.std.proofs.lemmas.Bool.{eq-eqb, ne_eqb}
use Rattle.std.proofs.lemmas.List.{get_or_default}
use Rattle.std.proofs.lemmas.List.Filters.{FiltersInPlace-more_no, FiltersInPlace-more_set}
use Rattle.std.proofs.Math.Bool.{not}
use Rattle.safesnap.proofs.waiting.keep_others.Goals as goal
use Rattle.safesnap.proofs.waiting.keep_others.Goals.{then-other-txn, else-other-txn}

pub loop-place-preserved : goal.loop-place-preserved
loop-place-preserved c =
    let within : c.loop-place.place < length c.loop-place.numbers = omega arith in
    let at = get_or_default c.loop-place.numbers c.loop-place.place (record { 0 = 0 }) _ within in
    elim c.if-other-txn.branch [
      | then-other-txn w ↦ rw (w.numbers-is, w.kept-is) (FiltersInPlace-more_set c.loop-place.invariant within (ap not (ne_eqb _ _ w.if-other-txn.true)) at)
      | else-other-txn w ↦ rw (w.numbers-is, w.kept-is) (FiltersInPlace-more_no c.loop-place.invariant within (ap not (eq-eqb _ _ w.if-other-txn.false)) at)
    ]
