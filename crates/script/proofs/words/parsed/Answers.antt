use Rattle.std.proofs.Common.{◌∙◌}
use Rattle.script.proofs.NumberLemmas.{parsed}
use Rattle.script.proofs.words.parsed.Goals as goal

pub returns : goal.returns
returns c = c.ok.ensures.value ∙ parsed c.args.digits.now c.parse.result c.requires c.parse.ensures.value.0
