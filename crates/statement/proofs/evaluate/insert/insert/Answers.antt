use Rattle.std.proofs.Common.{Ok, ◌<◌, ◌∷◌, drop, take, ◌-◌, length, subst, ◌∙◌, arith}
use Rattle.value.specs.Refusals.{AnswersOrNoMemory}
use Rattle.statement.specs.Evaluation.{inserted}
use Rattle.statement.proofs.HeldLemmas.{answered}
use Rattle.statement.proofs.InsertLemmas.{first_and_rest}
use Rattle.statement.proofs.evaluate.insert.insert.Goals as goal

pub returns-in-len1-up : goal.returns-in-len1-up
returns-in-len1-up g c =
    let C = c.args.catalog.now in
    let X = g.R.SnapshotReader.tables c.args.reader.now in
    let vs = c.as_slice-all.result.now in
    let some : 0 < length vs = omega arith in
    let all = first_and_rest vs c.key-item.result some c.key-item.is ∙ c.as_slice-all.ensures in
    subst (λ ws. AnswersOrNoMemory c.insert.result (Ok (inserted C c.args.table ws X))) all
    (answered c.insert.result (inserted C c.args.table (c.key-item.result ∷ take (length vs - 1) (drop 1 vs)) X) c.insert.ensures.ok c.insert.ensures.memory)
