use Rattle.std.proofs.Common.{◌<◌, [], ◌∙◌, ◌++◌, ◌∷◌, length, arith}
use Rattle.schema.proofs.NamedLemmas.{one_more}
use Rattle.schema.proofs.tables.Tables.new.Goals as goal

pub loop-preserved : goal.loop-preserved
loop-preserved g c =
    let within : c.loop.counter < length c.args.catalog.now = omega (arith, c.len-end.ensures.len) in
    c.in_ok-push.ensures.items ∙ (λ j. c.loop.invariant j ++ c.new.ensures j ∷ []) ∙ one_more [] c.args.catalog.now c.loop.counter within
