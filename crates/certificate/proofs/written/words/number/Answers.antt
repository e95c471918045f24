use Rattle.std.proofs.Common.{◌∙◌, sym}
use Rattle.certificate.proofs.WrittenNumberLemmas.{IsUtf8-digits}
use Rattle.certificate.proofs.written.words.number.Goals as goal

pub returns-in-Err : goal.returns-in-Err
returns-in-Err c = absurd (c.in-Err.ensures.cases.0 (IsUtf8-digits c.args.text.now (sym c.is_digits.ensures ∙ c.if-not-is_digits.false)))
