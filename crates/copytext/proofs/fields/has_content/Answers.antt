use Rattle.std.proofs.Common.{refl, sym, ◌∙◌}
use Rattle.copytext.proofs.ValueLemmas.{content-whole}
use Rattle.copytext.proofs.fields.has_content.Goals as goal

pub returns-then-not-contains : goal.returns-then-not-contains
returns-then-not-contains c = rw (content-whole c.args.raw.now (sym c.contains.ensures.value ∙ c.if-not-contains.true)) refl
