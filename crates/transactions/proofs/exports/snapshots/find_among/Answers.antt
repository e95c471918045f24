use Rattle.std.proofs.Common.{◌∙◌, sym, ap, Some, arith}
use Rattle.std.proofs.lemmas.Option.{slice_get-get_or}
use Rattle.value.proofs.Basics.{find-next}
use Rattle.history.specs.Transactions.{is_of}
use Rattle.transactions.proofs.WalkLemmas.{find-here}
use Rattle.transactions.proofs.exports.snapshots.find_among.Goals as goal

pub returns-then-is_of-clause-some : goal.returns-then-is_of-clause-some
returns-then-is_of-clause-some g c =
    find-here (is_of c.args.session) c.args.transactions.now c.loop-place.place c.index-transactions-place.result (omega arith) c.index-transactions-place.is c.loop-place.invariant (sym c.is_of.ensures ∙ c.if-is_of.true)
    ∙ ap Some c.index-transactions-place.is ∙ sym (slice_get-get_or c.args.transactions.now c.loop-place.place c.index-transactions-place.result (omega arith))

pub loop-place-preserved : goal.loop-place-preserved
loop-place-preserved g c =
    find-next (is_of c.args.session) c.args.transactions.now c.loop-place.place c.index-transactions-place.result (omega arith) c.index-transactions-place.is c.loop-place.invariant (sym c.is_of.ensures ∙ c.if-is_of.false)
