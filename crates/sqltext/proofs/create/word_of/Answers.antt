use Rattle.std.proofs.Common.{◌∙◌}
use Rattle.sqltext.proofs.CreateLemmas.{not_word, is_word}
use Rattle.sqltext.proofs.create.word_of.Goals as goal

pub returns-in_default : goal.returns-in_default
returns-in_default g c = not_word c.args.text.now c.bytes_of.result.now c.args.name _ c.bytes_of.ensures c.in_default.ensures.cases.0 c.refusal_at.ensures

pub returns-in-Ok-from_str : goal.returns-in-Ok-from_str
returns-in-Ok-from_str g c = is_word c.args.text.now c.bytes_of.result.now _ c.args.name c.bytes_of.ensures c.in-Ok.ensures.cases.1 (c.in-Ok-from_str.ensures.ok ∙ c.in-Ok.ensures.cases.0)
