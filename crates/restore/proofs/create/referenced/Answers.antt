use Rattle.std.proofs.Common.{sym}
use Rattle.std.proofs.lemmas.Result.{err_from_is_err_and}
use Rattle.restore.proofs.words.Create.{reference-is, reference-fails, not_empty}
use Rattle.restore.proofs.create.referenced.Goals as goal

pub returns-in_err-name : goal.returns-in_err-name
returns-in_err-name g c =
    let p = err_from_is_err_and c.from_residual.result c.from_residual.ensures.1 in
    rw (p.1, p.2) (reference-fails c.in_err-name.field-0.0 c.args.marks.now c.in-Some.word.now (not_empty _ _ c.is_empty.ensures c.if-is_empty.false) (sym c.in-Some.ensures) c.in_err-name.ensures)

pub returns : goal.returns
returns g c = reference-is c.args.marks.now c.in-Some.word.now c.in_ok-name.name (not_empty _ _ c.is_empty.ensures c.if-is_empty.false) (sym c.in-Some.ensures) c.in_ok-name.ensures
