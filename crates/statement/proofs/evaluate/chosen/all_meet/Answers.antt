use Rattle.std.proofs.Common.{length, ◌-◌, sym, ◌∙◌}
use Rattle.statement.proofs.WalkLemmas.{batch_meets, columns_at}
use Rattle.statement.proofs.evaluate.chosen.all_meet.Goals as goal

pub satisfies-requires-in-Some-last : goal.satisfies-requires-in-Some-last
satisfies-requires-in-Some-last g c = columns_at c.args.conditions.now c.args.batch.now c.in-Some-last.last.now (length c.args.batch.now - 1) c.requires.columns c.in-Some-last.ensures.value

pub returns-in-Some-last : goal.returns-in-Some-last
returns-in-Some-last g c is =
    batch_meets c.args.conditions.now c.args.batch.now c.in-Some.first.now c.in-Some-last.last.now (sym c.bound_key.ensures ∙ c.if-not-bound_key.false) c.requires.ordered c.in-Some.ensures.value c.in-Some-last.ensures.value
    (sym c.satisfies.ensures ∙ c.if-not-satisfies.false) (sym c.satisfies-in-Some-last.ensures ∙ is)
