use Rattle.std.proofs.Common.{◌∙◌, sym, arith}
use Rattle.retrace.proofs.WalkLemmas.{counted, passed}
use Rattle.retrace.proofs.witness.extent.count_keys.Goals as goal

pub loop-left-preserved-then-is_last_of_key : goal.loop-left-preserved-then-is_last_of_key
loop-left-preserved-then-is_last_of_key g c =
    let e = counted c.args.table c.loop-left.left.now c.reading-item.result c.in-len1-up.len_at_least c.reading-item.is (sym c.is_last_of_key.ensures ∙ c.if-is_last_of_key.true) in
    (omega (arith, e, c.loop-left.invariant.0), omega (arith, c.loop-left.invariant.1, c.in-len1-up.len_at_least))

pub loop-left-preserved : goal.loop-left-preserved
loop-left-preserved g c =
    let e = passed c.args.table c.loop-left.left.now c.reading-item.result c.in-len1-up.len_at_least c.reading-item.is (sym c.is_last_of_key.ensures ∙ c.if-is_last_of_key.false) in
    (omega (arith, e, c.loop-left.invariant.0), omega (arith, c.loop-left.invariant.1, c.in-len1-up.len_at_least))
