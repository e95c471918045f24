use Rattle.std.proofs.Common.{sym, ap, ◌∙◌, w64, Ok, Err}
use Rattle.std.proofs.lemmas.Int.{to_z-of_z}
use Rattle.value.proofs.LiteralLemmas.{bigint_of-other, bigint_of-read, bigint_of-refused}
use Rattle.value.proofs.literal.bigint.Goals as goal

pub returns-in_default : goal.returns-in_default
returns-in_default c = sym (bigint_of-other _ c.in_default.ensures.cases.0)

pub returns-in-Ok-parse : goal.returns-in-Ok-parse
returns-in-Ok-parse c =
    let read = (rw c.in-Ok.ensures.cases.0 at c.in-Ok-parse.ensures.value.0) in
    rw read.1 (ap Ok (to_z-of_z w64 _ read.0.1)) ∙ sym (bigint_of-read c.args.text.now read.0.0 read.0.1)

pub returns-in-Err : goal.returns-in-Err
returns-in-Err c =
    let refused = rw c.in-Ok.ensures.cases.0 at c.in-Err.ensures.value.0 in
    ap Err c.code_of_no_bigint.ensures ∙ sym (bigint_of-refused c.args.text.now refused)
