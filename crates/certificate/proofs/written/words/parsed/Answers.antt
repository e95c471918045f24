use Rattle.std.proofs.Common.{◌∙◌}
use Rattle.certificate.proofs.WrittenNumberLemmas.{parsed}
use Rattle.certificate.proofs.written.words.parsed.Goals as goal

pub returns : goal.returns
returns c = c.ok.ensures.value ∙ parsed c.args.digits.now c.parse.result c.requires c.parse.ensures.value.0
