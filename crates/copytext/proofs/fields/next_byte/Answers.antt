use Rattle.std.proofs.Common.{◌∷◌, List, ℕ, ap, sym, ◌∙◌, arith, eq-eqb}
use Rattle.std.specs.Option.{option_map}
use Rattle.copytext.specs.Reading.{content}
use Rattle.copytext.proofs.FieldLemmas.{content_escape}
use Rattle.copytext.proofs.fields.next_byte.Goals as goal

pub returns-in-Some : goal.returns-in-Some
returns-in-Some c = (
  content_escape c.args.first c.args.more.now _ _ (eq-eqb c.args.first 92 c.if-first-ne92.false) c.in-Some.ensures.value
      ∙ ap (λ (rest : List ℕ). option_map (λ (bytes : List ℕ). c.in-Some.byte ∷ bytes) (content rest)) (sym c.split_at.ensures.back),
  omega arith,
)
