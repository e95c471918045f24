use Rattle.std.proofs.Common.{Ok, ap, inl, ◌∙◌}
use Rattle.statement.specs.declared.reply.Reply.TheVariants.{Rows}
use Rattle.statement.specs.Conditions.{chosen}
use Rattle.statement.specs.Evaluation.{answers, shown}
use Rattle.statement.proofs.HeldLemmas.{answer_of}
use Rattle.statement.proofs.evaluate.evaluate_select.Goals as goal

pub returns : goal.returns
returns g c =
    let X = g.R.SnapshotReader.tables c.args.reader.now in
    let is = answer_of c.in_ok-rows.rows (shown c.args.projection.now (chosen X c.args.table c.args.conditions.now)) c.in_ok-rows.ensures in
    inl (ap Ok (c.answers.ensures ∙ ap (λ rows. answers (Rows rows)) is))
